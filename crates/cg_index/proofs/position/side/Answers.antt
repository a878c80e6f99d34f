use Rattle.std.proofs.Common.{ℕ, eqb, sym, ap, ◌∙◌}
use Rattle.std.proofs.lemmas.Nat.Bits.{shr_and_one}
use Rattle.cg_index.specs.Position.{digit_of}
use Rattle.cg_index.specs.PositionLaws.{side_at}
use Rattle.cg_index.proofs.position.side.Goals as goal

pub returns : goal.returns
returns c =
    ap (λ (x : ℕ). eqb x 1) (shr_and_one c.byte_at.result c.args.at.digit)
    ∙ ap (λ (x : ℕ). digit_of x c.args.at.digit) c.byte_at.ensures
    ∙ sym (side_at c.args.key.now c.args.at.byte c.args.at.digit c.requires)
