use Rattle.cg_snap.proofs.GoingOnLawsBlocks.{all_told_once, told_by_once}
use Rattle.cg_snap.proofs.GoingOnLawsCarry.{unstopped_viable}
use Rattle.cg_snap.proofs.GoingOnLawsCloses.{viable_closes}
use Rattle.cg_snap.proofs.GoingOnLawsFaults.{first_fault}
use Rattle.cg_snap.proofs.GoingOnLawsKept.{plain_stopped, plain_unstopped, told_stays}
use Rattle.cg_snap.proofs.GoingOnLawsTold.{all_are_decoded, all_are_told, nothing_left_out, nothing_stops, own_faults, own_lines}
use Rattle.cg_snap.proofs.laws.going_on.Goals as goal

pub returns-clause-one_told : goal.returns-clause-one_told
returns-clause-one_told c = told_by_once

pub returns-clause-one_all_told : goal.returns-clause-one_all_told
returns-clause-one_all_told c = all_told_once

pub returns-clause-nothing_left_out : goal.returns-clause-nothing_left_out
returns-clause-nothing_left_out c = nothing_left_out

pub returns-clause-all_are_told : goal.returns-clause-all_are_told
returns-clause-all_are_told c = all_are_told

pub returns-clause-nothing_stops : goal.returns-clause-nothing_stops
returns-clause-nothing_stops c = nothing_stops

pub returns-clause-all_are_decoded : goal.returns-clause-all_are_decoded
returns-clause-all_are_decoded c = all_are_decoded

pub returns-clause-first_fault : goal.returns-clause-first_fault
returns-clause-first_fault c = first_fault

pub returns-clause-own_lines : goal.returns-clause-own_lines
returns-clause-own_lines c = own_lines

pub returns-clause-told_stays : goal.returns-clause-told_stays
returns-clause-told_stays c = told_stays

pub returns-clause-plain_unstopped : goal.returns-clause-plain_unstopped
returns-clause-plain_unstopped c = plain_unstopped

pub returns-clause-plain_stopped : goal.returns-clause-plain_stopped
returns-clause-plain_stopped c = plain_stopped

pub returns-clause-unstopped_closes : goal.returns-clause-unstopped_closes
returns-clause-unstopped_closes c = λ profile limits bytes u. viable_closes profile bytes (unstopped_viable profile limits bytes u)

pub returns-clause-own_faults : goal.returns-clause-own_faults
returns-clause-own_faults c = own_faults
