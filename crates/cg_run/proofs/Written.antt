-- Texts that an output holds.
use Rattle.std.proofs.Common.{◌≡◌, ◌≢◌, ℕ, ◌<◌, List, [], ◌∷◌, ◌++◌, length, Option, refl, sym, ap, subst, ◌∙◌, append_assoc, append-nil, arith, length-append}
use Rattle.std.specs.Io.KnownBytes.{Appends}
use Rattle.cg_text.specs.Token.{saturated}
use Rattle.cg_outcome.specs.Wrote.{HasWritten, joined}
use Rattle.cg_outcome.proofs.Written.{joined_push}
use Rattle.cg_run.specs.Output.{Holds}
use Rattle.cg_run.specs.declared.output.Output.{Output}

pub joined_append : (xs ys : List (List ℕ)) → joined (xs ++ ys) ≡ joined xs ++ joined ys
joined_append [] ys = refl
joined_append (x ∷ xs) ys = ap (λ t. x ++ t) (joined_append xs ys) ∙ sym (append_assoc x (joined xs) (joined ys))

-- The text of one part.
pub joined_one : (part : List ℕ) → part ≡ joined (part ∷ [])
joined_one part = sym (append-nil part)

-- The same text, in other parts.
pub written_as : (first now : Option (List ℕ)) (xs ys : List (List ℕ)) (written : ℕ) → joined xs ≡ joined ys → HasWritten first now xs written → HasWritten first now ys written
written_as first now xs ys written e h = subst (λ (t : List ℕ). Appends first now t × (written ≡ saturated (length t))) e h

-- All is written where it holds nothing.
pub holds_none : (first now : Option (List ℕ)) (parts : List (List ℕ)) (output : Output) → output.text.items ≡ [] → HasWritten first now parts output.written → Holds first now parts output
holds_none first now parts output e h = record { before = parts; wrote = h; text = sym (ap (λ t. joined parts ++ t) e ∙ append-nil (joined parts)) }

module _ (first now : Option (List ℕ)) (parts : List (List ℕ)) (output : Output) (h : Holds first now parts output) where
  -- The parts, with those that it holds as one.
  pub held_joined : joined (h.before ++ output.text.items ∷ []) ≡ joined parts
  held_joined = joined_push h.before output.text.items ∙ sym h.text

  pub none_held : output.text.items ≡ [] → HasWritten first now parts output.written
  none_held e = written_as first now h.before parts output.written (sym (append-nil (joined h.before)) ∙ ap (λ t. joined h.before ++ t) (sym e) ∙ sym h.text) h.wrote

  -- The texts of more parts are appended.
  pub holds_more : (more : List (List ℕ)) (new : Output) → new.text.items ≡ output.text.items ++ joined more → new.written ≡ output.written → Holds first now (parts ++ more) new
  holds_more more new e same = record {
    before = h.before;
    wrote = (h.wrote.0, same ∙ h.wrote.1);
    text = joined_append parts more ∙ ap (λ t. t ++ joined more) h.text ∙ append_assoc (joined h.before) output.text.items (joined more) ∙ ap (λ t. joined h.before ++ t) (sym e);
  }

  -- Nothing more is.
  pub holds_same : (new : Output) → new.text.items ≡ output.text.items → new.written ≡ output.written → Holds first now parts new
  holds_same new e same = record { before = h.before; wrote = (h.wrote.0, same ∙ h.wrote.1); text = h.text ∙ ap (λ t. joined h.before ++ t) (sym e) }

  -- Where it holds a text there are parts.
  pub held_some : 0 < length output.text.items → parts ≢ []
  held_some some none =
      let e : length (joined parts) ≡ 0 = ap (λ ps. length (joined ps)) none in
      absurd (omega (arith, some, e, ap length h.text, length-append (joined h.before) output.text.items))
