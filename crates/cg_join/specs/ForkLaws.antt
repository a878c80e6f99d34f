-- What holds of a token beside which another one may begin.
use Rattle.std.proofs.Common.{◌≡◌, ℕ, ◌↔◌, Bool, false, List, [], ◌∷◌, ◌++◌, refl, ap, IsTrue}
use Rattle.std.proofs.Props.{props}
use Rattle.cg_text.specs.Scan.{FollowsRun}
use Rattle.cg_text.specs.Token.{AreBytes, Begins, Completes, Ends, HasOneText, HasOneValue, HoldsBytes, NoneBegins, Spells}
use Rattle.cg_join.specs.Choice.{either_size}
use Rattle.cg_join.specs.Fork.{IsFork, IsForked, AllBegin, IsFree, either_ends}
use Rattle.cg_join.specs.Spelling.{IsAllowed, IsEither, spells_as}
use Rattle.cg_join.specs.TextBytes.{BeginsBy}
use Rattle.cg_join.specs.declared.choice.Either.{Either}
use Rattle.cg_join.specs.declared.choice.Either.TheVariants.{Left, Right}

pub IsFree_prop : {S T V : Type 0} (first : S → List ℕ → V → Type 0) (byte : ℕ) (allowed : Bool) (x : Either S T) → IsProp (IsFree first byte allowed x)
IsFree_prop first byte allowed (Left s) = hlevel props
IsFree_prop first byte allowed (Right t) = hlevel props

pub fork_none : {S T : Type 0} (f : S → ℕ) (g : T → ℕ) (x : Either S T) → ((s : S) → f s ≡ 0) → ((t : T) → g t ≡ 0) → either_size f g x ≡ 0
fork_none f g (Left s) e k = e s
fork_none f g (Right t) e k = k t

module _ {S V W : Type 0} {A : S → List ℕ → V → Type 0} {s : S} {R : List ℕ → V → Type 0} (Q : List ℕ → W → Type 0) where
  fork_to : (allowed : Bool) → Spells A s R → (text : List ℕ) (v : Either V W) → IsForked A Q allowed s text v ↔ IsEither R (IsAllowed allowed Q) text v
  fork_to allowed a text (Left v) = a.is text v
  fork_to allowed a text (Right w) = (λ h. h, λ h. h)

  -- The texts of a fork, by those of its first token.
  pub fork_spells : {X : Type 0} {M : X → List ℕ → Either V W → Type 0} {x : X} (allowed : Bool) → Spells A s R →
      Spells M x (λ rest v. IsForked A Q allowed s rest v) → Spells M x (IsEither R (IsAllowed allowed Q))
  fork_spells allowed a m = spells_as m (fork_to allowed a)

-- The texts of the state begin otherwise than with the byte.
pub none_begins : {S V : Type 0} {A : S → List ℕ → V → Type 0} {s : S} {R : List ℕ → V → Type 0} {F : ℕ → Type 0} (byte : ℕ) → Spells A s R → BeginsBy F R → (F byte → ⊥) → NoneBegins A s byte
none_begins byte a f none rest v h = none (f.is byte rest v ((a.is (byte ∷ rest) v).0 h))

-- What all texts begin with begins one of them.
pub text_behind : {W : Type 0} (texts : List ℕ → W → Type 0) (byte : ℕ) → AllBegin texts byte → ((text : List ℕ) × (w : W) × texts text w) → (rest : List ℕ) × (w : W) × texts (byte ∷ rest) w
text_behind {W} texts byte all t = of_text t.0 t.1 t.2
  where
    of_text : (text : List ℕ) (w : W) → texts text w → (rest : List ℕ) × (w : W) × texts (byte ∷ rest) w
    of_text [] w h = absurd (all.0.is w h)
    of_text (c ∷ cs) w h = let e : c ≡ byte = all.1.is c cs w h in (cs, w, rw e at h)

module _ {S T V W : Type 0} (first : S → List ℕ → V → Type 0) (other : T → List ℕ → W → Type 0) (texts : List ℕ → W → Type 0) where
  pub fork_completes : (allowed : Bool) (x : Either S T) → ((s : S) → Completes first s) → ((t : T) → Completes other t) →
      (rest : List ℕ) × (v : Either V W) × IsFork first other texts allowed x rest v
  fork_completes allowed (Left s) c d = let r = c s in (r.0, Left r.1, r.2)
  fork_completes allowed (Right t) c d = let r = d t in (r.0, Right r.1, r.2)

  pub fork_bytes : (allowed : Bool) (x : Either S T) → ((s : S) → HoldsBytes first s) → ((t : T) → HoldsBytes other t) → ((text : List ℕ) (w : W) → texts text w → AreBytes text) →
      (rest : List ℕ) (v : Either V W) → IsFork first other texts allowed x rest v → AreBytes rest
  fork_bytes allowed (Left s) c d e rest (Left v) h = c s rest v h
  fork_bytes allowed (Left s) c d e rest (Right w) h = e rest w h.1
  fork_bytes allowed (Right t) c d e rest (Left v) h = absurd h
  fork_bytes allowed (Right t) c d e rest (Right w) h = d t rest w h

  module _ (byte : ℕ) (all : AllBegin texts byte) where
    first_ends : (allowed : Bool) (s : S) (v : Either V W) → IsFork first other texts allowed (Left s) [] v → Ends first s
    first_ends allowed s (Left v) h = (v, h)
    first_ends allowed s (Right w) h = absurd (all.0.is w h.1)

    other_ends : (allowed : Bool) (t : T) (v : Either V W) → IsFork first other texts allowed (Right t) [] v → Ends other t
    other_ends allowed t (Left v) h = absurd h
    other_ends allowed t (Right w) h = (w, h)

    pub fork_ends : (allowed : Bool) (x : Either S T) (e : S → Bool) (f : T → Bool) → ((s : S) → IsTrue (e s) ↔ Ends first s) → ((t : T) → IsTrue (f t) ↔ Ends other t) →
        IsTrue (either_ends e f x) ↔ ((v : Either V W) × IsFork first other texts allowed x [] v)
    fork_ends allowed (Left s) e f is is' = (λ h. (let v = (is s).0 h in (Left v.0, v.1)), λ h. (is s).1 (first_ends allowed s h.0 h.1))
    fork_ends allowed (Right t) e f is is' = (λ h. (let w = (is' t).0 h in (Right w.0, w.1)), λ h. (is' t).1 (other_ends allowed t h.0 h.1))

    clash : (s : S) → NoneBegins first s byte → (rest : List ℕ) (v : V) (w : W) → first s rest v → texts rest w → ⊥
    clash s none [] v w h k = all.0.is w k
    clash s none (c ∷ cs) v w h k = let e : c ≡ byte = all.1.is c cs w k in none cs v (rw e at h)

    pub fork_one : (allowed : Bool) (x : Either S T) → IsFree first byte allowed x → ((s : S) → HasOneValue first s) → ((t : T) → HasOneValue other t) → HasOneText texts →
        (rest : List ℕ) (v w : Either V W) → IsFork first other texts allowed x rest v → IsFork first other texts allowed x rest w → v ≡ w
    fork_one allowed (Left s) free one two three rest (Left v) (Left w) h k = ap Left (one s rest v w h k)
    fork_one allowed (Left s) free one two three rest (Left v) (Right w) h k = absurd (clash s (free k.0) rest v w h k.1)
    fork_one allowed (Left s) free one two three rest (Right v) (Left w) h k = absurd (clash s (free h.0) rest w v k h.1)
    fork_one allowed (Left s) free one two three rest (Right v) (Right w) h k = ap Right (three rest v w h.1 k.1)
    fork_one allowed (Right t) free one two three rest (Left v) w h k = absurd h
    fork_one allowed (Right t) free one two three rest (Right v) (Left w) h k = absurd k
    fork_one allowed (Right t) free one two three rest (Right v) (Right w) h k = ap Right (two t rest v w h k)

    pub other_may : (allowed : Bool) (x : Either S T) → IsTrue allowed → IsFree first byte allowed x → ((text : List ℕ) × (w : W) × texts text w) →
        (rest : List ℕ) × (v : Either V W) × IsFork first other texts allowed x (byte ∷ rest) v
    other_may allowed (Left s) may free some = let t = text_behind texts byte all some in (t.0, Right t.1, (may, t.2))
    other_may allowed (Right t) may free some = absurd (cc)

    -- A byte with which the other one doesn't begin.
    module _ (allowed : Bool) (s : S) (c : ℕ) (not : IsTrue allowed → c ≡ byte → ⊥) where
      none_other : (rest : List ℕ) (w : W) → IsTrue allowed → texts (c ∷ rest) w → ⊥
      none_other rest w opened h = not opened (all.1.is c rest w h)

      begins_of : (rest : List ℕ) (v : Either V W) → IsFork first other texts allowed (Left s) (c ∷ rest) v → Begins first s c
      begins_of rest (Left v) h = (rest, v, h)
      begins_of rest (Right w) h = absurd (none_other rest w h.0 h.1)

      pub first_begins : Begins first s c ↔ ((rest : List ℕ) × (v : Either V W) × IsFork first other texts allowed (Left s) (c ∷ rest) v)
      first_begins = (λ h. (h.0, Left h.1, h.2), λ h. begins_of h.0 h.1 h.2)

    not_run : (s s' : S) (run rest : List ℕ) (w : W) → NoneBegins first s byte → Completes first s' → FollowsRun first s run s' → (run ≡ [] → ⊥) → texts (run ++ rest) w → ⊥
    not_run s s' [] rest w none done f some h = some refl
    not_run s s' (c ∷ cs) rest w none done f some h =
        let e : c ≡ byte = all.1.is c (cs ++ rest) w h in
        none (cs ++ done.0) done.1 (rw e at ((f done.0 done.1).0 done.2))

    pub first_run : (allowed : Bool) (s s' : S) (run : List ℕ) → (IsTrue allowed → NoneBegins first s byte) → Completes first s' → (run ≡ [] → ⊥) → FollowsRun first s run s' →
        (rest : List ℕ) (v : Either V W) → IsFork first other texts false (Left s') rest v ↔ IsFork first other texts allowed (Left s) (run ++ rest) v
    first_run allowed s s' run free done some f rest (Left v) = f rest v
    first_run allowed s s' run free done some f rest (Right w) = (λ h. absurd (cc), λ h. absurd (not_run s s' run rest w (free h.0) done f some h.1))

  other_begins_of : (allowed : Bool) (t : T) (c : ℕ) (rest : List ℕ) (v : Either V W) → IsFork first other texts allowed (Right t) (c ∷ rest) v → Begins other t c
  other_begins_of allowed t c rest (Left v) h = absurd h
  other_begins_of allowed t c rest (Right w) h = (rest, w, h)

  pub other_begins : (allowed : Bool) (t : T) (c : ℕ) → Begins other t c ↔ ((rest : List ℕ) × (v : Either V W) × IsFork first other texts allowed (Right t) (c ∷ rest) v)
  other_begins allowed t c = (λ h. (h.0, Right h.1, h.2), λ h. other_begins_of allowed t c h.0 h.1 h.2)
