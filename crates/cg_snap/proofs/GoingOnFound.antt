-- What is at fault of what is found with a byte: that byte, and nothing that came before it.
use Rattle.std.proofs.Common.{◌≡◌, ℕ, List, [], ◌∷◌, ◌++◌, length, refl, sym, ap, subst, ◌∙◌, append_assoc, arith, inl, inr}
use Rattle.std.proofs.lemmas.List.{append-nil, length-append}
use Rattle.cg_text.specs.ListFacts.{push_one}
use Rattle.cg_value.specs.declared.profile.Profile.{Profile}
use Rattle.cg_snap.specs.GoingOn.{AreToldBy, IsAtFault, Told, block_with}
use Rattle.cg_snap.specs.GoingOn.AreTold.{more}
use Rattle.cg_snap.specs.declared.going_on.LeftOut.{LeftOut}
use Rattle.cg_snap.specs.declared.limits.Limits.{Limits}
use Rattle.cg_snap.proofs.GoingOnFaults.{snoc}
use Rattle.cg_snap.proofs.GoingOnLawsKept.{told_stays}

-- Before the byte c this was told, and the block that is left out comes behind it.
module _ (profile : Profile) (limits : Limits) (q : List ℕ) (c : ℕ) (told before entry : List Told) (behind : before ≡ told ++ entry) (closed : AreToldBy profile limits q told) (out : LeftOut) (block : List ℕ) (byte : ℕ)
    (x : IsAtFault profile limits (q ++ c ∷ []) before out block byte) where
  abbrev whole : List ℕ
  whole = x.front ++ (block ++ byte ∷ [])

  left_out : AreToldBy profile limits whole (before ++ inr out ∷ [])
  left_out = inl (record {
    front = whole;
    path = out.path;
    blocks = more x.front x.path before (block_with out.path block byte) (inr out) x.blocks x.follows x.left_out refl refl refl;
    left_out = inr (before, out, refl);
    tail = [];
    split = sym (append-nil whole);
    is_open = record { no_nul = tt; plain = tt; short = omega arith };
    ended = inl refl;
  })

  told_before : (back : List ℕ) → q ≡ whole ++ back → ⊥
  told_before back e =
      let kept = told_stays profile limits whole back (before ++ inr out ∷ []) told left_out (inl (subst (λ (t : List ℕ). AreToldBy profile limits t told) e closed)) in
      absurd (omega (arith, ap length kept.1, length-append (before ++ inr out ∷ []) kept.0, length-append before (inr out ∷ []), ap length behind, length-append told entry))

  -- The block came before the byte c, which is at fault.
  pub fault_ends : (x.front ++ block ≡ q) × (byte ≡ c)
  fault_ends = elim (snoc x.rest) [
    | inl e ↦
        let text : q ++ c ∷ [] ≡ (x.front ++ block) ++ byte ∷ [] = x.split ∙ (ap (λ (t : List ℕ). x.front ++ (block ++ byte ∷ t)) e ∙ sym (append_assoc x.front block (byte ∷ []))) in
        let same = push_one q (x.front ++ block) c byte text in
        (sym same.0, sym same.1)
    | inr r ↦
        let last = r.1 ∷ [] in
        let text : q ++ c ∷ [] ≡ (whole ++ r.0) ++ last =
        x.split ∙ (ap (λ (t : List ℕ). x.front ++ (block ++ byte ∷ t)) r.2 ∙ sym (append_assoc whole r.0 last ∙ (append_assoc x.front (block ++ byte ∷ []) (r.0 ++ last) ∙ ap (λ (t : List ℕ). x.front ++ t) (append_assoc block (byte ∷ []) (r.0 ++ last))))) in
        absurd (told_before r.0 ((push_one q (whole ++ r.0) c r.1 text).0))
  ]
