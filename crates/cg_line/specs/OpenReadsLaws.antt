-- What bytes do to an open reader.
use Rattle.std.proofs.Common.{ℕ, List, ◌++◌}
use Rattle.cg_file.specs.HeldLaws.{file_settled}
use Rattle.cg_file.specs.Kinds.{TextsOf}
use Rattle.cg_file.specs.contracts.any_file.AnyFileToken.TheImpl.{ghosts}
use Rattle.cg_value.specs.declared.kind.ReadForm.{ReadForm}
use Rattle.cg_line.specs.HeldLaws.{holds_piece}
use Rattle.cg_line.specs.Place.{IsPlace}
use Rattle.cg_line.specs.Rests.{IsAfter, IsPiece, IsRead}
use Rattle.cg_line.specs.RestsLaws.{read_on, value_is}
use Rattle.cg_line.specs.OpenReads.{OpenReads, is_open_reads, open_reads_is}
use Rattle.cg_line.specs.declared.open_reader.OpenReader.{OpenReader}

-- The rests are those of a file of the kind.
pub took_read : (r : OpenReader) (kind : ReadForm) (taken : List ℕ) → OpenReads r kind taken → IsRead (TextsOf kind) 0 (ghosts.means r.text) (ghosts.size r.text) taken
took_read r kind taken h = (is_open_reads r kind taken h).read

-- A piece of a file was taken.
pub took_on : (old new : OpenReader) (kind : ReadForm) (taken run : List ℕ) → IsAfter ghosts.means ghosts.size old.text new.text run → IsPiece run → (IsPlace old.in_line taken → IsPlace new.in_line (taken ++ run)) →
    OpenReads old kind taken → OpenReads new kind (taken ++ run)
took_on old new kind taken run after piece place h =
    let was = is_open_reads old kind taken h in
    let read = read_on was.read (ghosts.means new.text) (ghosts.size new.text) run after in
    open_reads_is new kind (taken ++ run) (record {
      read = read;
      form = was.form;
      place = place was.place;
      little = holds_piece kind taken run (ghosts.size old.text) (ghosts.size new.text) was.form piece after.few (λ v t. file_settled new.text v ((value_is read v).1 t)) was.little;
    })
