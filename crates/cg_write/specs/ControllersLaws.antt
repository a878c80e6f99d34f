-- What holds of the lines of controllers.
use Rattle.std.proofs.Common.{◌≡◌, ◌≢◌, ℕ, ◌↔◌, List, [], ◌∷◌, refl, ◌∙◌, arith}
use Rattle.std.proofs.lemmas.List.Elements.{All-nil, All-cons, All-head, All-tail}
use Rattle.std.specs.List.{All}
use Rattle.cg_text.specs.Word.{IsControllerWord}
use Rattle.cg_join.specs.LackingLaws.{joined_lacking}
use Rattle.cg_join.specs.Repeat.{Stops}
use Rattle.cg_join.specs.StartLaws.{lacks_stops}
use Rattle.cg_join.specs.TextBytes.{Lacking}
use Rattle.cg_value.specs.WriteLine.{AreToggles, toggles_line}
use Rattle.cg_value.specs.declared.setting.Toggle.{Toggle}
use Rattle.cg_write.specs.Texts.{AreJoinedToggles, IsToggle}
use Rattle.cg_write.specs.ToggleLaws.{toggle_lacking}

abbrev IsNamed : Toggle → Type 0
IsNamed t = IsControllerWord t.name

joined_line : (text : List ℕ) (toggles : List Toggle) → AreJoinedToggles text toggles → All IsNamed toggles × (text ≡ toggles_line toggles)
joined_line text [] h = absurd h
joined_line text (t ∷ []) h = (All-cons IsNamed t [] h.1 (All-nil IsNamed), h.0)
joined_line text (t ∷ u ∷ ts) h =
    let more = joined_line h.1 (u ∷ ts) h.4 in
    (All-cons IsNamed t (u ∷ ts) h.3.1 more.0, h.2 ∙ rw (h.3.0, more.1) refl)

joined_some : (text : List ℕ) (toggles : List Toggle) → AreJoinedToggles text toggles → toggles ≢ []
joined_some text [] h = absurd h
joined_some text (t ∷ ts) h = λ e. absurd (cc)

line_joined : (t : Toggle) (ts : List Toggle) → All IsNamed (t ∷ ts) → AreJoinedToggles (toggles_line (t ∷ ts)) (t ∷ ts)
line_joined t [] h = (refl, All-head IsNamed t [] h)
line_joined t (u ∷ ts) h = (_, toggles_line (u ∷ ts), refl, (refl, All-head IsNamed t (u ∷ ts) h), line_joined u ts (All-tail IsNamed t (u ∷ ts) h))

toggles_from : (text : List ℕ) (toggles : List Toggle) → AreToggles toggles text → AreJoinedToggles text toggles
toggles_from text [] h = absurd (h.some refl)
toggles_from text (t ∷ ts) h = rw h.line_is (line_joined t ts h.each)

pub toggles_are : (text : List ℕ) (toggles : List Toggle) → AreJoinedToggles text toggles ↔ AreToggles toggles text
toggles_are text toggles = (
  λ h. (let k = joined_line text toggles h in record { some = joined_some text toggles h; each = k.0; line_is = k.1 }),
  λ h. toggles_from text toggles h,
)

pub toggle_stops : Stops IsToggle 32
toggle_stops = lacks_stops IsToggle 32 (toggle_lacking 32 (omega arith)).is

pub toggles_lacking : Lacking AreJoinedToggles 10
toggles_lacking = joined_lacking 32 (λ e. omega (arith, e)) (toggle_lacking 10 (omega arith))
