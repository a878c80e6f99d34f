-- What holds of the tokens over whole writes.
use Rattle.std.proofs.Common.{ℕ, ◌↔◌, List, refl, sym, ◌∙◌, ap}
use Rattle.cg_text.specs.Token.{Spells}
use Rattle.cg_join.specs.Line.{IsLine}
use Rattle.cg_join.specs.LineLaws.{line_as}
use Rattle.cg_join.specs.Spelling.{IsMappedText, spells_as}
use Rattle.cg_value.specs.Lines.{IsLineOf}
use Rattle.cg_value.specs.Settings.{WriteText}
use Rattle.cg_value.specs.WriteLine.{WriteLine}
use Rattle.cg_value.specs.declared.kind.WriteForm.{WriteForm}
use Rattle.cg_value.specs.declared.setting.Setting.{Setting}

-- A line and its newline, turned into a setting, are a write of a kind whose lines are such.
pub write_is : {V : Type 0} (kind : WriteForm) (R : List ℕ → V → Type 0) (make : V → Setting) →
    ((s : Setting) (line : List ℕ) → WriteLine kind s line ↔ IsLineOf (λ v l. R l v) make s line) →
    (text : List ℕ) (s : Setting) → IsMappedText (IsLine R) (λ v. make v.0) text s ↔ WriteText kind s text
write_is kind R make lines text s = (
  λ h. record {
    line = h.1.front;
    spelled = (lines s h.1.front).1 (record { x = h.0.0; value = sym h.2; spelled = h.1.spells });
    text_is = h.1.whole;
  },
  λ h. (let one = (lines s h.line).0 h.spelled in
      ((one.x, tt), record { front = h.line; whole = h.text_is; spells = one.spelled }, sym one.value)),
)

-- The token of a line, ended by a newline and turned, is that of a write.
pub write_spells : {S X V : Type 0} {A : S → List ℕ → V → Type 0} {a : S} {R : List ℕ → V → Type 0} {M : X → List ℕ → Setting → Type 0} {x : X} (kind : WriteForm) (make : V → Setting) →
    Spells A a R → Spells M x (IsMappedText (IsLine (A a)) (λ v. make v.0)) →
    ((s : Setting) (line : List ℕ) → WriteLine kind s line ↔ IsLineOf (λ v l. R l v) make s line) → Spells M x (λ text s. WriteText kind s text)
write_spells {R = R} kind make h whole lines = spells_as (spells_as whole (line_as (λ v. make v.0) h.is)) (write_is kind R make lines)

-- A line by Q, where what R spells is turned into what Q does.
pub line_through : {V Y : Type 0} (R : List ℕ → V → Type 0) (Q : Y → List ℕ → Type 0) (f : V → Y) (make : Y → Setting) →
    ((text : List ℕ) (y : Y) → IsMappedText R f text y ↔ Q y text) →
    (s : Setting) (line : List ℕ) → IsLineOf Q make s line ↔ IsLineOf (λ v l. R l v) (λ v. make (f v)) s line
line_through R Q f make is s line = (
  λ h. (let k = (is line h.x).1 h.spelled in record { x = k.0; value = h.value ∙ ap make (sym k.2); spelled = k.1 }),
  λ h. record { x = f h.x; value = h.value; spelled = (is line (f h.x)).0 (h.x, h.spelled, refl) },
)

-- A line by Q, which holds where R does.
pub line_alike : {V : Type 0} (R : List ℕ → V → Type 0) (Q : V → List ℕ → Type 0) (make : V → Setting) →
    ((text : List ℕ) (v : V) → R text v ↔ Q v text) →
    (s : Setting) (line : List ℕ) → IsLineOf Q make s line ↔ IsLineOf (λ v l. R l v) make s line
line_alike R Q make is s line = (
  λ h. record { x = h.x; value = h.value; spelled = (is line h.x).1 h.spelled },
  λ h. record { x = h.x; value = h.value; spelled = (is line h.x).0 h.spelled },
)
