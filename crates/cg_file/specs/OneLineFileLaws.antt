-- What holds of the files of one line.
use Rattle.std.proofs.Common.{ℕ, ◌↔◌, List, refl, sym, ◌∙◌, ap, subst}
use Rattle.cg_text.specs.declared.values.Limit.{Limit}
use Rattle.cg_join.specs.CompositeLaws.{quota_is}
use Rattle.cg_join.specs.Composites.{IsQuotaAndPeriod}
use Rattle.cg_join.specs.Spelling.{IsMappedText}
use Rattle.cg_join.specs.declared.choice.Either.TheVariants.{Left, Right}
use Rattle.cg_value.specs.Lines.{IsOneLine}
use Rattle.cg_value.specs.ReadLine.{IsMode, IsCpuMax}
use Rattle.cg_value.specs.declared.value.GroupMode.{GroupMode}
use Rattle.cg_value.specs.declared.value.GroupMode.TheVariants.{Domain, DomainThreaded, DomainInvalid, Threaded}
use Rattle.cg_value.specs.declared.value.Value.{Value}
use Rattle.cg_file.specs.OneLineMapped.{OneOfFour, IsModeWord, mode_of, quota_of}

-- One line by Q, where what P spells is turned into what Q does.
pub one_through : {X Y : Type 0} (P : X → List ℕ → Type 0) (Q : Y → List ℕ → Type 0) (f : X → Y) (make : Y → Value) →
    ((text : List ℕ) (y : Y) → IsMappedText (λ t x. P x t) f text y ↔ Q y text) →
    (v : Value) (lines : List (List ℕ)) → IsOneLine Q make v lines ↔ IsOneLine P (λ x. make (f x)) v lines
one_through P Q f make is v lines = (
  λ h. (let k = (is h.line h.x).1 h.spelled in
      record { x = k.0; line = h.line; value = h.value ∙ ap make (sym k.2); lines_are = h.lines_are; spelled = k.1 }),
  λ h. record { x = f h.x; line = h.line; value = h.value; lines_are = h.lines_are; spelled = (is h.line (f h.x)).0 (h.x, h.spelled, refl) },
)

mode_from : (text : List ℕ) (x : OneOfFour) → IsModeWord text x → IsMode (mode_of x) text
mode_from text (Left (Left u)) h = h
mode_from text (Left (Right u)) h = h
mode_from text (Right (Left u)) h = h
mode_from text (Right (Right u)) h = h

mode_to : (text : List ℕ) (mode : GroupMode) → IsMode mode text → IsMappedText IsModeWord mode_of text mode
mode_to text Domain h = (Left (Left tt), h, refl)
mode_to text DomainThreaded h = (Left (Right tt), h, refl)
mode_to text DomainInvalid h = (Right (Left tt), h, refl)
mode_to text Threaded h = (Right (Right tt), h, refl)

-- The words of modes, turned into them.
pub mode_is : (text : List ℕ) (mode : GroupMode) → IsMappedText IsModeWord mode_of text mode ↔ IsMode mode text
mode_is text mode = (λ h. (let k = mode_from text h.0 h.1 in rw h.2 at k), λ h. mode_to text mode h)

-- A quota, a space and a period, turned into the two.
pub cpu_max_is : (text : List ℕ) (x : Limit × ℕ) → IsMappedText IsQuotaAndPeriod quota_of text x ↔ IsCpuMax x text
cpu_max_is text x = (
  λ h. (let k = (quota_is text h.0).0 h.1 in
      let parts : IsCpuMax (quota_of h.0) text = record { front = k.0; back = k.1; text_is = k.2; front_is = k.3; back_is = k.4 } in
      subst (λ (y : Limit × ℕ). IsCpuMax y text) h.2 parts),
  λ h. ((x.0, (tt, x.1)), (quota_is text (x.0, (tt, x.1))).1 (h.front, h.back, h.text_is, h.front_is, h.back_is), refl),
)
