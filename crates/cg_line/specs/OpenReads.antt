-- What an open reader took.
use Rattle.std.specs.Prelude.{ℕ, List}
use Rattle.cg_value.specs.Kind.{IsReadForm}
use Rattle.cg_value.specs.declared.kind.ReadForm.{ReadForm}
use Rattle.cg_file.specs.Kinds.{TextsOf, HoldsLittle}
use Rattle.cg_file.specs.contracts.any_file.AnyFileToken.TheImpl.{ghosts}
use Rattle.cg_line.specs.Rests.{IsRead}
use Rattle.cg_line.specs.Place.{IsPlace}
use Rattle.cg_line.specs.declared.open_reader.OpenReader.{OpenReader}

-- Of a file of this kind the reader took these bytes, and the place is that after them.
pub record HasOpenRead (r : OpenReader) (kind : ReadForm) (taken : List ℕ) : Type 0 where
  pub read : IsRead (TextsOf kind) 0 (ghosts.means r.text) (ghosts.size r.text) taken
  pub form : IsReadForm kind
  pub place : IsPlace r.in_line taken
  pub little : HoldsLittle (ghosts.size r.text) kind taken

unfoldable pub OpenReads : OpenReader → ReadForm → List ℕ → Type 0
OpenReads r kind taken = HasOpenRead r kind taken

-- The sum of the lengths of its vectors.
unfoldable pub open_held : OpenReader → ℕ
open_held r = ghosts.size r.text

pub open_reads_is : (r : OpenReader) (kind : ReadForm) (taken : List ℕ) → HasOpenRead r kind taken → OpenReads r kind taken
unfolding OpenReads
open_reads_is r kind taken h = h

pub is_open_reads : (r : OpenReader) (kind : ReadForm) (taken : List ℕ) → OpenReads r kind taken → HasOpenRead r kind taken
unfolding OpenReads
is_open_reads r kind taken h = h
