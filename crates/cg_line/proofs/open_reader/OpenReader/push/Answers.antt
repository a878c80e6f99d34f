use Rattle.std.proofs.Common.{[], ◌∷◌, Err, append-nil, inl}
use Rattle.cg_file.specs.contracts.any_file.AnyFileToken.TheImpl.{ghosts}
use Rattle.cg_text.specs.Texts.{TextOf}
use Rattle.cg_value.specs.Files.{KindFile}
use Rattle.cg_line.specs.Rests.{IsAfter}
use Rattle.cg_line.specs.RestsLaws.{goes_on, leaves_as}
use Rattle.cg_line.specs.RunsLaws.{byte_piece}
use Rattle.cg_line.specs.OpenReads.{OpenReads}
use Rattle.cg_line.specs.OpenReadsLaws.{took_on, took_read}
use Rattle.cg_line.specs.declared.open_reader.OpenReader.{OpenReader}
use Rattle.cg_line.proofs.open_reader.OpenReader.push.Goals as goal

pub returns-in-Ok-clause-pushed : goal.returns-in-Ok-clause-pushed
returns-in-Ok-clause-pushed c kind taken h = took_on c.args.self.now _ kind taken (c.args.byte ∷ []) c.in-Ok.ensures.pushed (byte_piece c.args.byte) (λ place. c.is_in_line-self.ensures taken) h

pub returns-in-Err-clause-pushed : goal.returns-in-Err-clause-pushed
returns-in-Err-clause-pushed c kind taken h =
    let old = c.args.self.now in
    let new : OpenReader = record { text = c.push_to.new.text; in_line = old.in_line } in
    leaves_as (TextOf (ghosts.means old.text)) (KindFile kind) taken (goes_on (took_read old kind taken h)) (IsAfter ghosts.means ghosts.size old.text new.text) (OpenReads new kind) c.args.byte (Err c.in-Err.fault)
    (λ after. took_on old new kind taken [] after (inl tt) (λ place. rw append-nil place) h) c.in-Err.ensures.pushed
