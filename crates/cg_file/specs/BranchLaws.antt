-- What holds of one of two tokens, by the first byte.
use Rattle.std.proofs.Common.{◌≡◌, ℕ, ◌+◌, ◌≤◌, ◌↔◌, ◌||◌, Bool, true, false, List, [], ◌∷◌, refl, sym, arith, IsTrue}
use Rattle.cg_text.specs.Token.{Begins, Completes, Ends, Follows, Spells}
use Rattle.cg_join.specs.Choice.{ShareNone, either_size}
use Rattle.cg_join.specs.ChoiceLaws.{choice_begins}
use Rattle.cg_join.specs.CutLaws.{either_as}
use Rattle.cg_join.specs.Repeat.{LacksEmpty}
use Rattle.cg_join.specs.Spelling.{IsEither, spells_as}
use Rattle.cg_join.specs.declared.choice.Either.{Either}
use Rattle.cg_join.specs.declared.choice.Either.TheVariants.{Left, Right}
use Rattle.cg_file.specs.Branch.{BranchRest, branch_ends_at, is_open, may_first, may_second}
use Rattle.cg_file.specs.OneOrBoth.{Differ}
use Rattle.cg_file.specs.declared.branch.BranchTaken.{BranchTaken}
use Rattle.cg_file.specs.declared.branch.BranchTaken.TheVariants.{Start, First, Second}

true_false : {A : Type 0} → true ≡ false → A
true_false e = absurd (cc)

-- One of them may be there.
pub one_may : (place : BranchTaken) → IsTrue (may_first place || may_second place)
one_may Start = refl
one_may First = refl
one_may Second = refl

module _ {S T V W : Type 0} (first : S → List ℕ → V → Type 0) (second : T → List ℕ → W → Type 0) where
  -- ---- The laws of a state

  ended_at : (place : BranchTaken) (s : S) (t : T) (a b : Bool) → (IsTrue a → Ends first s) → (IsTrue b → Ends second t) → IsTrue (branch_ends_at place a b) → (v : Either V W) × BranchRest first second place s t [] v
  ended_at Start s t a b f g h = true_false (sym h)
  ended_at First s t a b f g h = let k = f h in (Left k.0, (refl, k.1))
  ended_at Second s t a b f g h = let k = g h in (Right k.0, (refl, k.1))

  ends_of : (place : BranchTaken) (s : S) (t : T) (a b : Bool) → (IsTrue (is_open place) → Differ (first s) (second t)) → (IsTrue (is_open place) → LacksEmpty (second t)) →
      (Ends first s → IsTrue a) → (Ends second t → IsTrue b) → (v : Either V W) → BranchRest first second place s t [] v → IsTrue (branch_ends_at place a b)
  ends_of Start s t a b differ filled f g (Left v) h = absurd ((differ refl).0 v h.1)
  ends_of Start s t a b differ filled f g (Right w) h = absurd (filled refl w h.1)
  ends_of First s t a b differ filled f g (Left v) h = f (v, h.1)
  ends_of First s t a b differ filled f g (Right w) h = true_false (sym h.0)
  ends_of Second s t a b differ filled f g (Left v) h = true_false (sym h.0)
  ends_of Second s t a b differ filled f g (Right w) h = g (w, h.1)

  -- Nothing need follow where nothing need after the one that took bytes.
  pub branch_ends : (place : BranchTaken) (s : S) (t : T) (a b : Bool) → (IsTrue (is_open place) → Differ (first s) (second t)) → (IsTrue (is_open place) → LacksEmpty (second t)) →
      IsTrue a ↔ Ends first s → IsTrue b ↔ Ends second t → IsTrue (branch_ends_at place a b) ↔ ((v : Either V W) × BranchRest first second place s t [] v)
  branch_ends place s t a b differ filled f g = (ended_at place s t a b f.0 g.0, λ h. ends_of place s t a b differ filled f.1 g.1 h.0 h.1)

  differ_share : (s : S) (t : T) → Differ (first s) (second t) → ShareNone first second s t
  differ_share s t differ [] v w h k = differ.0 v h
  differ_share s t differ (b ∷ rest) v w h k = differ.1 b rest rest v w h k

  -- No rest is one of both.
  pub none_share : (place : BranchTaken) (s : S) (t : T) → (IsTrue (is_open place) → Differ (first s) (second t)) → IsTrue (may_first place) → IsTrue (may_second place) → ShareNone first second s t
  none_share Start s t differ h k = differ_share s t (differ refl)
  none_share First s t differ h k = true_false (sym k)
  none_share Second s t differ h k = true_false (sym h)

  -- The first takes the first byte.
  pub first_begun : (s s' : S) (t : T) (b : ℕ) → Differ (first s) (second t) → Completes first s' → Follows first s b s' →
      (rest : List ℕ) (v : Either V W) → BranchRest first second First s' t rest v ↔ BranchRest first second Start s t (b ∷ rest) v
  first_begun s s' t b differ c f rest (Left v) = (λ h. (refl, (f rest v).0 h.1), λ h. (refl, (f rest v).1 h.1))
  first_begun s s' t b differ c f rest (Right w) = (λ h. true_false (sym h.0), λ h. absurd (differ.1 b c.0 rest c.1 w ((f c.0 c.1).0 c.2) h.1))

  -- ---- Which bytes begin a rest

  pub start_begins : (s : S) (t : T) (b : ℕ) (x y : Bool) → IsTrue x ↔ Begins first s b → IsTrue y ↔ Begins second t b → IsTrue (x || y) ↔ ((rest : List ℕ) × (v : Either V W) × BranchRest first second Start s t (b ∷ rest) v)
  start_begins s t b x y f g = choice_begins first second true true x y s t b (λ h. (refl, f.0 h), λ h. f.1 h.1) (λ h. (refl, g.0 h), λ h. g.1 h.1)

  first_of : (s : S) (t : T) (b : ℕ) (x : Bool) → (Begins first s b → IsTrue x) → (rest : List ℕ) (v : Either V W) → BranchRest first second First s t (b ∷ rest) v → IsTrue x
  first_of s t b x f rest (Left v) h = f (rest, v, h.1)
  first_of s t b x f rest (Right w) h = true_false (sym h.0)

  pub first_begins : (s : S) (t : T) (b : ℕ) (x : Bool) → IsTrue x ↔ Begins first s b → IsTrue x ↔ ((rest : List ℕ) × (v : Either V W) × BranchRest first second First s t (b ∷ rest) v)
  first_begins s t b x f = (λ h. (let j = f.0 h in (j.0, Left j.1, (refl, j.2))), λ h. first_of s t b x f.1 h.0 h.1 h.2)

  second_of : (s : S) (t : T) (b : ℕ) (y : Bool) → (Begins second t b → IsTrue y) → (rest : List ℕ) (v : Either V W) → BranchRest first second Second s t (b ∷ rest) v → IsTrue y
  second_of s t b y g rest (Left v) h = true_false (sym h.0)
  second_of s t b y g rest (Right w) h = g (rest, w, h.1)

  pub second_begins : (s : S) (t : T) (b : ℕ) (y : Bool) → IsTrue y ↔ Begins second t b → IsTrue y ↔ ((rest : List ℕ) × (v : Either V W) × BranchRest first second Second s t (b ∷ rest) v)
  second_begins s t b y g = (λ h. (let j = g.0 h in (j.0, Right j.1, (refl, j.2))), λ h. second_of s t b y g.1 h.0 h.1 h.2)

  -- ---- How much is held

  -- A first that has no vector holds nothing, nor does a second that wasn't chosen.
  pub branch_settled : (place : BranchTaken) (s : S) (t : T) (m n : ℕ) (g : W → ℕ) → m ≡ 0 → (IsTrue (may_first place) → n ≡ 0) → ((w : W) → second t [] w → n ≤ g w) →
      (v : Either V W) → BranchRest first second place s t [] v → m + n ≤ either_size (λ _. 0) g v
  branch_settled place s t m n g e fresh settled (Left v) h = omega (arith, e, fresh h.0)
  branch_settled place s t m n g e fresh settled (Right w) h = omega (arith, e, settled w h.1)

-- ---- Texts that relations give

pub branch_spells : {S T V W X : Type 0} {A : S → List ℕ → V → Type 0} {B : T → List ℕ → W → Type 0} {s : S} {t : T} {R : List ℕ → V → Type 0} {Q : List ℕ → W → Type 0} {M : X → List ℕ → Either V W → Type 0} {x : X} →
    Spells A s R → Spells B t Q → Spells M x (IsEither (A s) (B t)) → Spells M x (IsEither R Q)
branch_spells a b m = spells_as m (either_as a.is b.is)
