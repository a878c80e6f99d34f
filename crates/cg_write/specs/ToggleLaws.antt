-- What holds of toggles.
use Rattle.std.proofs.Common.{◌≡◌, ℕ, ◌≤◌, ◌<◌, ◌↔◌, Bool, true, false, List, [], ◌∷◌, ◌++◌, refl, sym, ◌∙◌, ap, subst, arith}
use Rattle.cg_text.specs.AboveSpace.{AreAboveSpace}
use Rattle.cg_text.specs.Token.{AreBytes, HasOneText}
use Rattle.cg_text.specs.WordLaws.{text_word, words_bytes}
use Rattle.cg_join.specs.DisjointLaws.{fixed_disjoint}
use Rattle.cg_join.specs.LackingLaws.{above_lacking, concat_lacking, mapped_text_lacking, word_lacking}
use Rattle.cg_join.specs.Repeat.{LacksEmpty}
use Rattle.cg_join.specs.Spelling.{Disjoint, IsMappedText}
use Rattle.cg_join.specs.TextBytes.{IsFixed, Lacking}
use Rattle.cg_join.specs.WordStartLaws.{some_word}
use Rattle.cg_join.specs.declared.choice.Either.TheVariants.{Left, Right}
use Rattle.cg_value.specs.WriteLine.{sign_of}
use Rattle.cg_value.specs.declared.setting.Toggle.{Toggle}
use Rattle.cg_write.specs.Texts.{IsSign, IsSignAndWord, IsToggle, OneOfTwo}
use Rattle.cg_write.specs.Mapped.{is_on, toggle_of}

-- ---- A sign and a word are a toggle

sign_to : (text : List ℕ) (v : OneOfTwo) → IsSign text v → text ≡ sign_of (is_on v) ∷ []
sign_to text (Left u) h = h
sign_to text (Right u) h = h

sign_from : (on : Bool) → IsMappedText IsSign is_on (sign_of on ∷ []) on
sign_from true = (Left tt, refl, refl)
sign_from false = (Right tt, refl, refl)

toggle_to : (text : List ℕ) (v : OneOfTwo × List ℕ) → IsSignAndWord text v → IsToggle text (toggle_of v)
toggle_to text v h =
    let front = sign_to h.front v.0 h.begins in
    let whole : text ≡ sign_of (is_on v.0) ∷ h.back = rw front at h.whole in
    (whole ∙ ap (λ w. sign_of (is_on v.0) ∷ w) (sym h.ends.0), rw h.ends.0 h.ends.1)

pub toggle_is : (text : List ℕ) (t : Toggle) → IsMappedText IsSignAndWord toggle_of text t ↔ IsToggle text t
toggle_is text t = (
  λ h. subst (λ u. IsToggle text u) h.2 (toggle_to text h.0 h.1),
  λ h. (let sign = sign_from t.on in (
    (sign.0, t.name),
    record { front = sign_of t.on ∷ []; back = t.name; whole = h.0; begins = sign.1; ends = (refl, h.1) },
    ap (λ (on : Bool). record t { on = on }) sign.2,
  )),
)

-- ---- The side conditions

pub plus_not_minus : Disjoint (IsFixed (43 ∷ [])) (IsFixed (45 ∷ []))
plus_not_minus = fixed_disjoint (43 ∷ []) (45 ∷ []) refl

signs_above : (text : List ℕ) (v : OneOfTwo) → IsSign text v → AreAboveSpace text
signs_above text (Left u) h = rw h (omega arith, tt)
signs_above text (Right u) h = rw h (omega arith, tt)

pub toggle_lacking : (b : ℕ) → b ≤ 32 → Lacking IsToggle b
toggle_lacking b low =
    let parts = mapped_text_lacking {f = toggle_of} (concat_lacking (above_lacking IsSign b low signs_above) (word_lacking b true low)) in
    record { is = λ front more t h. parts.is front more t ((toggle_is (front ++ b ∷ more) t).1 h) }

pub toggle_filled : LacksEmpty IsToggle
toggle_filled t h = let e : [] ≡ sign_of t.on ∷ t.name = h.0 in cc

-- ---- Texts of toggles

pub some_toggle : (text : List ℕ) × (t : Toggle) × IsToggle text t
some_toggle = let w = some_word true in (43 ∷ w.0, record { on = true; name = w.0 }, (refl, w.2.1))

same_on : (a b : Bool) → sign_of a ≡ sign_of b → a ≡ b
same_on true true e = refl
same_on true false e = absurd (omega (arith, e))
same_on false true e = absurd (omega (arith, e))
same_on false false e = refl

same_toggle : (t u : Toggle) → t.on ≡ u.on → t.name ≡ u.name → t ≡ u
same_toggle t u e f = ap (λ (on : Bool). record t { on = on }) e ∙ ap (λ (name : List ℕ). record u { name = name }) f

pub one_toggle : HasOneText IsToggle
one_toggle text t u h k =
    let e : sign_of t.on ∷ t.name ≡ sign_of u.on ∷ u.name = sym h.0 ∙ k.0 in
    let sign : sign_of t.on ≡ sign_of u.on = cc in
    let name : t.name ≡ u.name = cc in
    same_toggle t u (same_on t.on u.on sign) name

sign_small : (on : Bool) → sign_of on < 256
sign_small true = omega arith
sign_small false = omega arith

pub toggle_bytes : (text : List ℕ) (t : Toggle) → IsToggle text t → AreBytes text
toggle_bytes text t h = rw h.0 (sign_small t.on, words_bytes t.name (text_word true t.name h.1).1)
