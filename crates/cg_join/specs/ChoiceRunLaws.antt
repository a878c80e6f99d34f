-- What holds of a choice of which both tokens live, where the left one took a run of bytes.
use Rattle.std.proofs.Common.{◌≡◌, ℕ, suc, ◌<◌, ◌↔◌, Bool, true, List, ◌∷◌, ◌++◌, drop, drop-cons, get_or, length, take, sym, ◌∙◌, ap, append_assoc, refl, IsTrue}
use Rattle.std.proofs.lemmas.List.{take-append-drop}
use Rattle.cg_text.specs.Scan.{FollowsRun}
use Rattle.cg_text.specs.Token.{NoneBegins}
use Rattle.cg_join.specs.Choice.{IsChoice, ShareNone}
use Rattle.cg_join.specs.declared.choice.Either.{Either}
use Rattle.cg_join.specs.declared.choice.Either.TheVariants.{Left, Right}

-- A text up to a byte, the byte, and what follows.
text_at : (text rest : List ℕ) (i : ℕ) → i < length text → text ++ rest ≡ take i text ++ get_or text i 0 ∷ (drop (suc i) text ++ rest)
text_at text rest i within =
    let parts : text ≡ take i text ++ get_or text i 0 ∷ drop (suc i) text = sym (take-append-drop i text) ∙ ap (λ t. take i text ++ t) (drop-cons text i 0 within) in
    ap (λ t. t ++ rest) parts ∙ append_assoc (take i text) (get_or text i 0 ∷ drop (suc i) text) rest

-- Where a byte of a text is refused after those before it, no rest begins with the text.
pub run_refused : {S V : Type 0} (means : S → List ℕ → V → Type 0) (old s : S) (text : List ℕ) (i : ℕ) → i < length text →
    FollowsRun means old (take i text) s → NoneBegins means s (get_or text i 0) → (rest : List ℕ) (v : V) → means old (text ++ rest) v → ⊥
run_refused means old s text i within follows none rest v h =
    none (drop (suc i) text ++ rest) v ((follows (get_or text i 0 ∷ (drop (suc i) text ++ rest)) v).1 (rw (text_at text rest i within) at h))

module _ {S T V W : Type 0} (left : S → List ℕ → V → Type 0) (right : T → List ℕ → W → Type 0) where
  -- Both live; the left one took the run, and the right one too, or none of its texts begins with it.
  module _ (s s' : S) (t t' : T) (run : List ℕ) (lives : Bool) (follows : FollowsRun left s run s')
      (keeps : (rest : List ℕ) (w : W) → (IsTrue lives × right t' rest w) ↔ right t (run ++ rest) w) where
    pub choice_run : (rest : List ℕ) (x : Either V W) → IsChoice left right true lives s' t' rest x ↔ IsChoice left right true true s t (run ++ rest) x
    choice_run rest (Left v) = (λ h. (refl, (follows rest v).0 h.1), λ h. (refl, (follows rest v).1 h.1))
    choice_run rest (Right w) = (λ h. (refl, (keeps rest w).0 h), λ h. (keeps rest w).1 h.1)

    -- They still share no text.
    pub choice_run_apart : ShareNone left right s t → IsTrue lives → ShareNone left right s' t'
    choice_run_apart none alive rest v w h k = none (run ++ rest) v w ((follows rest v).0 h) ((keeps rest w).0 (alive, k))
