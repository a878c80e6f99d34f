-- Which bytes can come next where no line is begun.
use Rattle.std.proofs.Common.{◌≡◌, ℕ, ◌<◌, inl, inr, false, List, Option, Some, None, sym, subst, arith}
use Rattle.cg_text.specs.Texts.{Next}
use Rattle.cg_value.specs.Entry.{EntryData}
use Rattle.cg_value.specs.declared.profile.Profile.{Profile}
use Rattle.cg_snap.specs.DecoderState.{HasConsumed, IsBetween}
use Rattle.cg_snap.specs.Snap.{Snap}
use Rattle.cg_snap.specs.declared.present.CurrentEntry.{CurrentEntry}
use Rattle.cg_snap.proofs.States.{between, paths_head}

pub between_some : (o : Option CurrentEntry) (x : CurrentEntry) → o ≡ Some x → x.in_line ≡ false → IsBetween o
between_some o x e f = subst IsBetween (sym e) f

pub between_none : (o : Option CurrentEntry) → o ≡ None → IsBetween o
between_none o e = subst IsBetween (sym e) tt

-- What may come after a path is a byte.
pub path_offers : (profile : Profile) (begun : List ℕ) (o : Option CurrentEntry) (p : List ℕ) (es : List EntryData) (b : ℕ) → IsBetween o → HasConsumed profile begun o p es → Next (Snap profile) p b → b < 256
path_offers profile begun o p es b i h next = elim (paths_head profile begun o p es b (between profile begun o p es i h) next) [ inl e ↦ omega (arith, e) | inr q ↦ q.1 ]
