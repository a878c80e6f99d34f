use Rattle.std.proofs.Common.{length, refl}
use Rattle.std.proofs.lemmas.Bool.{iff_false}
use Rattle.cg_value.specs.Lines.{unlines}
use Rattle.cg_value.specs.Print.{print_lines}
use Rattle.cg_snap.proofs.Ends.{ends_as, never_cut, never_empty}
use Rattle.cg_snap.proofs.Sounds.{sound_entry}
use Rattle.cg_snap.proofs.entry.ended.Goals as goal

pub known-requires : goal.known-requires
known-requires c =
    let value = c.in-Some.value in
    sound_entry c.args.present.path.items c.args.present.reader value (length (print_lines value)) c.args.present.sound c.in-Some.ensures refl (iff_false c.is_lineless.ensures c.if-is_lineless.false)

pub returns-then-is_lineless : goal.returns-then-is_lineless
returns-then-is_lineless c = λ profile begun p es h.
    let value = c.in-Some.value in
    never_empty profile begun c.args.present p es h value (length (print_lines value)) refl (c.is_lineless.ensures.0 c.if-is_lineless.true) (c.in-Some.ensures h.kind (unlines h.lines) h.reads)

pub returns-else-is_lineless : goal.returns-else-is_lineless
returns-else-is_lineless c = λ profile begun p es h.
    ends_as profile begun c.args.present p es h c.known.result c.in-Some.value c.known.ensures.path c.known.ensures.value (c.in-Some.ensures h.kind (unlines h.lines) h.reads)

pub returns-in-None : goal.returns-in-None
returns-in-None c = λ profile begun p es h. never_cut profile begun c.args.present p es h (c.in-None.ensures h.kind (unlines h.lines) h.reads)
