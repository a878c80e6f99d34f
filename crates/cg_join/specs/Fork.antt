-- What a token means beside which another one may begin.
use Rattle.std.specs.Prelude.{◌≡◌, ℕ, ◌↔◌, Bool, List, ◌∷◌, IsTrue, IsFalse}
use Rattle.cg_text.specs.Token.{NoneBegins}
use Rattle.cg_join.specs.TextBytes.{BeginsBy, Filled}
use Rattle.cg_join.specs.declared.choice.Either.{Either}
use Rattle.cg_join.specs.declared.choice.Either.TheVariants.{Left, Right}

module _ {S T V W : Type 0} (first : S → List ℕ → V → Type 0) (other : T → List ℕ → W → Type 0) (texts : List ℕ → W → Type 0) where
  -- A rest of the token at hand; where the other one may begin, also a text of it.
  abbrev pub IsFork : Bool → Either S T → List ℕ → Either V W → Type 0
  IsFork allowed (Left s) rest (Left v) = first s rest v
  IsFork allowed (Left s) rest (Right w) = IsTrue allowed × texts rest w
  IsFork allowed (Right t) rest (Left v) = ⊥
  IsFork allowed (Right t) rest (Right w) = other t rest w

-- A rest of the first token; where the other one may begin, also a text of it.
abbrev pub IsForked : {S V W : Type 0} → (S → List ℕ → V → Type 0) → (List ℕ → W → Type 0) → Bool → S → List ℕ → Either V W → Type 0
IsForked first texts allowed s rest (Left v) = first s rest v
IsForked first texts allowed s rest (Right w) = IsTrue allowed × texts rest w

-- No text is empty, and each begins with the byte.
abbrev pub AllBegin : {W : Type 0} → (List ℕ → W → Type 0) → ℕ → Type 0
AllBegin texts byte = Filled texts × BeginsBy (λ c. c ≡ byte) texts

-- The rests of the token are the texts that begin with the byte, without it.
abbrev pub AreBehind : {T W : Type 0} → (T → List ℕ → W → Type 0) → (List ℕ → W → Type 0) → ℕ → T → Type 0
AreBehind {T} {W} means texts byte token = (rest : List ℕ) (w : W) → means token rest w ↔ texts (byte ∷ rest) w

-- The other one may begin only before the first byte of a token no text of which begins as it does.
abbrev pub IsFree : {S T V : Type 0} → (S → List ℕ → V → Type 0) → ℕ → Bool → Either S T → Type 0
IsFree first byte allowed (Left s) = IsTrue allowed → NoneBegins first s byte
IsFree first byte allowed (Right t) = IsFalse allowed

-- Whether nothing need follow the token at hand.
abbrev pub either_ends : {S T : Type 0} → (S → Bool) → (T → Bool) → Either S T → Bool
either_ends e f (Left s) = e s
either_ends e f (Right t) = f t
