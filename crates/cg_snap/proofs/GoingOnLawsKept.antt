-- What was told stays, however the bytes go on.
use Rattle.std.proofs.Common.{◌≡◌, ◌≢◌, ◌↔◌, ℕ, ◌<◌, ◌≤◌, ◌⊎◌, inl, inr, List, [], ◌∷◌, ◌++◌, length, take, Option, Some, None, refl, sym, ap, subst, ◌∙◌, append_assoc, arith}
use Rattle.std.proofs.lemmas.List.{append-nil, length-append}
use Rattle.cg_text.specs.Texts.{Lacks}
use Rattle.cg_value.specs.Entry.{IsPath}
use Rattle.cg_value.specs.PathLaws.{path_lacks_newline, path_lacks_nul}
use Rattle.cg_value.specs.declared.profile.Profile.{Profile}
use Rattle.cg_file.specs.WeightFileLaws.{not_empty}
use Rattle.cg_snap.specs.Begun.{IsRecordEnd}
use Rattle.cg_snap.specs.GoingOn.{AreAllTold, AreTold, AreToldBy, Block, Follows, HasPath, IsBehind, IsBlockOf, IsCause, IsLeftOut, IsOpen, IsWithin, Tells, Told, block_limits, more, none}
use Rattle.cg_snap.specs.GoingOnLaws.{AreToldOf}
use Rattle.cg_snap.specs.SnapLaws.{cut}
use Rattle.cg_snap.specs.SnapStop.{IsManyRecords, IsRecordWhy, IsSnapUnstopped, SnapStopOf}
use Rattle.cg_snap.specs.Snap.{Snap}
use Rattle.cg_snap.specs.declared.going_on.Cause.{Cause}
use Rattle.cg_snap.specs.declared.going_on.Cause.TheVariants as causes
use Rattle.cg_snap.specs.declared.going_on.LeftOut.{LeftOut}
use Rattle.cg_snap.specs.declared.limits.Limits.{Limits}
use Rattle.cg_snap.specs.declared.stop.Stop.{Stop}
use Rattle.cg_snap.proofs.GoingOnLawsBlocks.{append_empty, Begins, HasOpen, IsSnapPassed, IsSnapStopAt, behind_open, begins_of, block_begins, block_some, cut_twice, lacks_front, last_in, line_behind, line_once, not_both, out_once, push_both, stopped_not, told_once, within_open}
use Rattle.cg_snap.proofs.GoingOnLawsCarry.{unstopped_within}
use Rattle.cg_snap.proofs.Stops.{stop_longer}

-- ---- A block that goes on

module _ (max : ℕ) where
  -- What begins with a block, which begins with a path and its NUL, is of this path.
  prefix_begins : (p : Option (List ℕ)) (b n : List ℕ) → IsBlockOf max p b → Begins max p (b ++ n)
  prefix_begins p b n w = ((λ z. block_some max p b w (append_empty b n z).0), λ q back g lt e. of p q back w g lt e)
    where
      front_open : (q m : List ℕ) → IsPath q → length q < max → q ≡ b ++ m → IsOpen max b
      front_open q m g lt e = record {
        no_nul = lacks_front 0 b m (subst (Lacks 0) e (path_lacks_nul q g));
        plain = lacks_front 10 b m (subst (Lacks 10) e (path_lacks_newline q g));
        short = omega (arith, lt, ap length e, length-append b m);
      }

      behind : (q m back : List ℕ) → IsPath q → length q < max → b ≡ q ++ m → 0 ∷ back ≡ m ++ n → (IsOpen max b → ⊥) →
          ((path : List ℕ) → HasPath max b path → ⊥) → ⊥
      behind q [] back g lt e z known no_path = known (front_open q [] g lt (sym (append-nil q) ∙ (sym e ∙ sym (append-nil b))))
      behind q (c ∷ m) back g lt e z known no_path = let s : c ≡ 0 = cc in no_path q (record { good = g; within = lt; back = m; split = e ∙ ap (λ (d : ℕ). q ++ d ∷ m) s })

      of : (p : Option (List ℕ)) (q back : List ℕ) → IsBlockOf max p b → IsPath q → length q < max → b ++ n ≡ q ++ 0 ∷ back → p ≡ Some q
      of (Some r) q back w g lt e =
          let s = block_begins r b w.2 in
          let t : r ++ 0 ∷ (s.0 ++ n) ≡ q ++ 0 ∷ back = sym (append_assoc r (0 ∷ s.0) n) ∙ (ap (λ (x : List ℕ). x ++ n) (sym s.1) ∙ e) in
          ap (λ (x : List ℕ). Some x) (cut 0 r q (s.0 ++ n) back (path_lacks_nul r w.0) (path_lacks_nul q g) t).0
      of None q back w g lt e = elim (cut_twice b n q (0 ∷ back) e) [
        | inl m ↦ absurd (w.known (front_open q m.0 g lt m.1))
        | inr m ↦ absurd (behind q m.0 back g lt m.1 m.2 w.known w.none)
      ]

  -- And so is what a block begins with.
  front_begins : (p : Option (List ℕ)) (r n : List ℕ) → r ≢ [] → IsBlockOf max p (r ++ n) → Begins max p r
  front_begins p r n some w = (some, λ q back g lt e. begins_of max p q (r ++ n) (back ++ n) w g lt (ap (λ (t : List ℕ). t ++ n) e ∙ append_assoc q (0 ∷ back) n))

  -- A block that goes on keeps its path.
  path_kept : (p q : Option (List ℕ)) (b n : List ℕ) → IsBlockOf max p b → IsBlockOf max q (b ++ n) → p ≡ q
  path_kept p (Some r) b n v w = let s = block_begins r (b ++ n) w.2 in (prefix_begins p b n v).1 r s.0 w.0 w.1 s.1
  path_kept None None b n v w = refl
  path_kept (Some r) None b n v w =
      let s = block_begins r b v.2 in
      absurd (w.none r (record { good = v.0; within = v.1; back = s.0 ++ n; split = ap (λ (t : List ℕ). t ++ n) s.1 ∙ append_assoc r (0 ∷ s.0) n }))

module _ (profile : Profile) (limits : Limits) where
  -- In blocks and a block behind them stands another, which follows some: it is the last one, which may go on, or among the others.
  module _ (front : List ℕ) (last : Option (List ℕ)) (before : List Told) (block : Block) (h : AreTold profile limits front last before) (v : Follows limits.max_record front last block)
      (f : List ℕ) (p : Option (List ℕ)) (s : List Told) (b : Block) (k : AreTold profile limits f p s) (w : Follows limits.max_record f p b) where
    step : (n : List ℕ) → front ++ block.bytes ≡ f ++ (b.bytes ++ n) →
        ((front ≡ f) × (block.bytes ≡ b.bytes ++ n)) ⊎ ((m : List ℕ) × (front ≡ f ++ (b.bytes ++ m)))
    step n e = elim (cut_twice front block.bytes f (b.bytes ++ n) e) [
      | inl m ↦ elim (last_in m.0) [
        | inl z ↦ inl (sym (m.1 ∙ (ap (λ (x : List ℕ). front ++ x) z ∙ append-nil front)), m.2 ∙ ap (λ (x : List ℕ). x ++ (b.bytes ++ n)) z)
        | inr l ↦ absurd (not_both profile limits front m.0 p s block.path b.path (b.bytes ++ n) (λ z. not_empty l.0 [] l.1 (sym l.2 ∙ z)) v.ended (subst IsRecordEnd m.1 w.ended)
            (subst (λ (x : List ℕ). AreTold profile limits x p s) m.1 k) (subst (λ (x : List ℕ). IsBlockOf limits.max_record block.path x) m.2 v.is_block)
            (prefix_begins limits.max_record b.path b.bytes n w.is_block) w.other)
      ]
      | inr m ↦ elim (last_in m.0) [
        | inl z ↦ inl (m.1 ∙ (ap (λ (x : List ℕ). f ++ x) z ∙ append-nil f), sym (m.2 ∙ ap (λ (x : List ℕ). x ++ block.bytes) z))
        | inr l ↦ among n m.0 m.1 m.2 (λ z. not_empty l.0 [] l.1 (sym l.2 ∙ z))
      ]
    ]
      where
        among : (n m : List ℕ) → front ≡ f ++ m → b.bytes ++ n ≡ m ++ block.bytes → m ≢ [] →
            ((front ≡ f) × (block.bytes ≡ b.bytes ++ n)) ⊎ ((m : List ℕ) × (front ≡ f ++ (b.bytes ++ m)))
        among n m e g some = elim (cut_twice b.bytes n m block.bytes g) [
          | inl r ↦ inr (r.0, e ∙ ap (λ (x : List ℕ). f ++ x) r.1)
          | inr r ↦ elim (last_in r.0) [
            | inl z ↦ inr ([], e ∙ ap (λ (x : List ℕ). f ++ x) (sym (append-nil b.bytes ∙ (r.1 ∙ (ap (λ (x : List ℕ). m ++ x) z ∙ append-nil m)))))
            | inr l ↦
                let rest : r.0 ≢ [] = λ z. not_empty l.0 [] l.1 (sym l.2 ∙ z) in
                absurd (not_both profile limits f m last before b.path block.path r.0 some w.ended (subst IsRecordEnd e v.ended)
                (subst (λ (x : List ℕ). AreTold profile limits x last before) e h) (subst (λ (x : List ℕ). IsBlockOf limits.max_record b.path x) r.1 w.is_block)
                (front_begins limits.max_record block.path r.0 n rest (subst (λ (x : List ℕ). IsBlockOf limits.max_record block.path x) r.2 v.is_block)) v.other)
          ]
        ]

  -- Of the block, which may go on, is told this, behind what was told before it.
  record IsKept (f : List ℕ) (s : List Told) (b : Block) (t : List Told) : Type 0 where
    block : Block
    path : block.path ≡ b.path
    back : List ℕ
    longer : block.bytes ≡ b.bytes ++ back
    one : Told
    tells : Tells profile limits (length f) block one
    rest : List Told
    told : t ≡ s ++ one ∷ rest

  kept : (bytes : List ℕ) (q : Option (List ℕ)) (t : List Told) (f : List ℕ) (p : Option (List ℕ)) (s : List Told) (b : Block) (n : List ℕ) →
      AreTold profile limits bytes q t → AreTold profile limits f p s →
      Follows limits.max_record f p b → bytes ≡ f ++ (b.bytes ++ n) → IsKept f s b t
  kept bytes q t f p s b n (none x y z) k w e = absurd (block_some limits.max_record b.path b.bytes w.is_block (append_empty b.bytes n (append_empty f (b.bytes ++ n) (sym e ∙ x)).1).0)
  kept bytes q t f p s b n (more front last before block one rest follows tells x y z) k w e = elim (step front last before block rest follows f p s b k w n (sym x ∙ e)) [
    | inl d ↦
        let told : before ≡ s = (told_once profile limits f last p before s (subst (λ (u : List ℕ). AreTold profile limits u last before) d.0 rest) k).1 in
        record {
          block = block;
          path = sym (path_kept limits.max_record b.path block.path b.bytes n w.is_block (subst (λ (u : List ℕ). IsBlockOf limits.max_record block.path u) d.1 follows.is_block));
          back = n;
          longer = d.1;
          one = one;
          tells = subst (λ (u : List ℕ). Tells profile limits (length u) block one) d.0 tells;
          rest = [];
          told = z ∙ ap (λ (u : List Told). u ++ one ∷ []) told;
        }
    | inr d ↦
        let r = kept front last before f p s b d.0 rest k w d.1 in
        record {
          block = r.block;
          path = r.path;
          back = r.back;
          longer = r.longer;
          one = r.one;
          tells = r.tells;
          rest = r.rest ++ one ∷ [];
          told = z ∙ (ap (λ (u : List Told). u ++ one ∷ []) r.told ∙ append_assoc s (r.one ∷ r.rest) (one ∷ []));
        }
  ]

  -- Where the block is left out, so it is where it goes on.
  stopped_longer : (b c : Block) (n : List ℕ) (stop : Stop) → c.bytes ≡ b.bytes ++ n → SnapStopOf profile (block_limits limits) b.bytes stop →
      SnapStopOf profile (block_limits limits) c.bytes stop
  stopped_longer b c n stop e h =
      subst (λ (x : List ℕ). SnapStopOf profile (block_limits limits) x stop) (sym e) (stop_longer (Snap profile) (IsRecordWhy profile) (IsManyRecords profile) (block_limits limits) b.bytes n stop h)

  out_kept : (f : List ℕ) (s : List Told) (b : Block) (t : List Told) (out : LeftOut) → IsLeftOut profile limits (length f) b out → IsKept f s b t →
      (rest : List Told) × (t ≡ (s ++ inr out ∷ []) ++ rest)
  out_kept f s b t out h r = of r.one r.tells r.told
    where
      there : IsLeftOut profile limits (length f) r.block out
      there = record { stop = h.stop; stops = stopped_longer b r.block r.back h.stop r.longer h.stops; at = h.at; path = h.path ∙ sym r.path; cause = h.cause }

      of : (one : Told) → Tells profile limits (length f) r.block one → t ≡ s ++ one ∷ r.rest → (rest : List Told) × (t ≡ (s ++ inr out ∷ []) ++ rest)
      of (inl e) d z = absurd (stopped_not profile limits r.block.bytes there.stop d.unstopped there.stops)
      of (inr x) d z =
          let same : x ≡ out = out_once profile limits (length f) r.block x out d there in
          (r.rest, z ∙ (ap (λ (y : LeftOut). s ++ inr y ∷ r.rest) same ∙ sym (append_assoc s (inr out ∷ []) r.rest)))

  -- A block that follows some stands before what came of a line whose path isn't known.
  covers : (bytes front tail f : List ℕ) (p : Option (List ℕ)) (b : Block) (n : List ℕ) → HasOpen profile limits bytes front tail →
      Follows limits.max_record f p b → bytes ≡ f ++ (b.bytes ++ n) →
      (m : List ℕ) × (front ≡ f ++ (b.bytes ++ m))
  covers bytes front tail f p b n h w e = elim (cut_twice (f ++ b.bytes) n front tail (append_assoc f b.bytes n ∙ (sym e ∙ h.split))) [
    | inl m ↦ (m.0, m.1 ∙ append_assoc f b.bytes m.0)
    | inr m ↦ elim (last_in m.0) [
      | inl z ↦ ([], sym (m.1 ∙ (ap (λ (x : List ℕ). front ++ x) z ∙ append-nil front)) ∙ ap (λ (x : List ℕ). f ++ x) (sym (append-nil b.bytes)))
      | inr l ↦
          let some : m.0 ≢ [] = λ z. not_empty l.0 [] l.1 (sym l.2 ∙ z) in
          let line = line_behind limits.max_record f b.bytes b.path w.ended w.is_block in
          let plain : Lacks 10 m.0 = lacks_front 10 m.0 n (subst (Lacks 10) m.2 h.is_open.plain) in
          let known : IsOpen limits.max_record m.0 = record { no_nul = lacks_front 0 m.0 n (subst (Lacks 0) m.2 h.is_open.no_nul); plain = plain; short = omega (arith, h.is_open.short, ap length m.2, length-append m.0 n) } in
          let ended : IsRecordEnd front = elim h.ended [ inl z ↦ absurd (some (append_empty m.0 n (sym m.2 ∙ z)).0) | inr z ↦ z ] in
          let s = line_once line.front front line.line m.0 line.ended ended line.is_line (record { some = some; plain = inl plain }) (sym line.split ∙ m.1) in
          absurd (line.known (subst (IsOpen limits.max_record) (sym s.1) known))
    ]
  ]

  -- What is told of bytes that go on from a block behind others, of which all is told: that, and perhaps more.
  all_kept : (bytes : List ℕ) (f : List ℕ) (p : Option (List ℕ)) (s t : List Told) (b : Block) (n : List ℕ) → AreTold profile limits f p s →
      Follows limits.max_record f p b → bytes ≡ f ++ (b.bytes ++ n) →
      AreAllTold profile limits bytes t → IsKept f s b t
  all_kept bytes f p s t b n k w e h = kept bytes h.1.0 t f p s b n h.1.1 k w e

  behind_kept : (bytes : List ℕ) (f : List ℕ) (p : Option (List ℕ)) (s t : List Told) (b : Block) (n : List ℕ) → AreTold profile limits f p s →
      Follows limits.max_record f p b → bytes ≡ f ++ (b.bytes ++ n) →
      IsBehind profile limits bytes t → IsKept f s b t
  behind_kept bytes f p s t b n k w e h =
      let c = covers bytes h.front h.tail f p b n (behind_open profile limits bytes t h) w e in
      kept h.front h.path t f p s b c.0 h.blocks k w c.1

  -- The block is that at which nothing is at fault, or it is told.
  within_kept : (bytes : List ℕ) (f : List ℕ) (p : Option (List ℕ)) (s t : List Told) (b : Block) (n : List ℕ) → AreTold profile limits f p s →
      Follows limits.max_record f p b → bytes ≡ f ++ (b.bytes ++ n) →
      (h : IsWithin profile limits bytes t) → ((m : List ℕ) × (h.front ≡ f) × (h.block.bytes ≡ b.bytes ++ m)) ⊎ IsKept f s b t
  within_kept bytes f p s t b n k w e h =
      let c = covers bytes (h.front ++ h.block.bytes) h.tail f p b n (within_open profile limits bytes t h) w e in
      elim (step h.front h.path t h.block h.blocks h.follows f p s b k w c.0 c.1) [
        | inl d ↦ inl (c.0, d.0, d.1)
        | inr d ↦ inr (kept h.front h.path t f p s b d.0 h.blocks k w d.1)
      ]

  -- ---- Left out before

  abbrev Goes : List Told → List Told → Type 0
  Goes s t = (rest : List Told) × (t ≡ s ++ rest)

  goes_from : (s x t : List Told) → s ≡ x → Goes x t → Goes s t
  goes_from s x t e g = (g.0, g.1 ∙ ap (λ (u : List Told). u ++ g.0) (sym e))

  -- What goes on from blocks of which all is told and the last of which is left out.
  from_left_out : (bytes front x : List ℕ) (q : Option (List ℕ)) (s t : List Told) → AreTold profile limits front q s →
      ((s ≡ []) ⊎ ((before : List Told) × (out : LeftOut) × (s ≡ before ++ inr out ∷ []))) → bytes ≡ front ++ x →
      ((f : List ℕ) (p : Option (List ℕ)) (r : List Told) (b : Block) (n : List ℕ) (out : LeftOut) → AreTold profile limits f p r → Follows limits.max_record f p b → IsLeftOut profile limits (length f) b out → bytes ≡ f ++ (b.bytes ++ n) → Goes (r ++ inr out ∷ []) t) →
      Goes s t
  from_left_out bytes front x q s t h (inl z) e go = (t, ap (λ (u : List Told). u ++ t) (sym z))
  from_left_out bytes front x q s t (none a b c) (inr l) e go = (t, ap (λ (u : List Told). u ++ t) (sym c))
  from_left_out bytes front x q s t (more f last before block one rest follows tells a b c) (inr l) e go =
      let same = push_both before l.0 one (inr l.1) (sym c ∙ l.2) in
      goes_from s (before ++ inr l.1 ∷ []) t (c ∙ ap (λ (u : Told). before ++ u ∷ []) same.1)
      (go f last before block x l.1 rest follows (subst (Tells profile limits (length f) block) same.1 tells) (e ∙ (ap (λ (u : List ℕ). u ++ x) a ∙ append_assoc f block.bytes x)))

  out_all : (bytes : List ℕ) (t : List Told) → AreAllTold profile limits bytes t →
      (f : List ℕ) (p : Option (List ℕ)) (r : List Told) (b : Block) (n : List ℕ) (out : LeftOut) → AreTold profile limits f p r →
      Follows limits.max_record f p b → IsLeftOut profile limits (length f) b out → bytes ≡ f ++ (b.bytes ++ n) → Goes (r ++ inr out ∷ []) t
  out_all bytes t h f p r b n out k w o e = out_kept f r b t out o (all_kept bytes f p r t b n k w e h)

  out_by : (bytes : List ℕ) (t : List Told) → AreToldBy profile limits bytes t →
      (f : List ℕ) (p : Option (List ℕ)) (r : List Told) (b : Block) (n : List ℕ) (out : LeftOut) → AreTold profile limits f p r →
      Follows limits.max_record f p b → IsLeftOut profile limits (length f) b out → bytes ≡ f ++ (b.bytes ++ n) → Goes (r ++ inr out ∷ []) t
  out_by bytes t (inl h) f p r b n out k w o e = out_kept f r b t out o (behind_kept bytes f p r t b n k w e h)
  out_by bytes t (inr h) f p r b n out k w o e = elim (within_kept bytes f p r t b n k w e h) [
    | inl d ↦ absurd (stopped_not profile limits h.block.bytes o.stop h.unstopped (stopped_longer b h.block d.0 o.stop d.2 o.stops))
    | inr d ↦ out_kept f r b t out o d
  ]

  -- ---- Both

  kept_goes : (f : List ℕ) (s t : List Told) (b : Block) → IsKept f s b t → Goes s t
  kept_goes f s t b r = (r.one ∷ r.rest, r.told)

  within_text : (bytes back f b y : List ℕ) → bytes ≡ f ++ (b ++ y) → bytes ++ back ≡ f ++ (b ++ (y ++ back))
  within_text bytes back f b y e = ap (λ (u : List ℕ). u ++ back) e ∙ simp append_assoc

  by_stays : (bytes back : List ℕ) (s t : List Told) → AreToldBy profile limits bytes s → AreToldBy profile limits (bytes ++ back) t → Goes s t
  by_stays bytes back s t (inl h) k =
      from_left_out (bytes ++ back) h.front (h.tail ++ back) h.path s t h.blocks h.left_out (ap (λ (u : List ℕ). u ++ back) h.split ∙ append_assoc h.front h.tail back) (out_by (bytes ++ back) t k)
  by_stays bytes back s t (inr h) (inl k) =
      kept_goes h.front s t h.block (behind_kept (bytes ++ back) h.front h.path s t h.block (h.tail ++ back) h.blocks h.follows (within_text bytes back h.front h.block.bytes h.tail h.split) k)
  by_stays bytes back s t (inr h) (inr k) =
      elim (within_kept (bytes ++ back) h.front h.path s t h.block (h.tail ++ back) h.blocks h.follows (within_text bytes back h.front h.block.bytes h.tail h.split) k) [
        | inl d ↦ ([], (told_once profile limits h.front k.path h.path t s (subst (λ (u : List ℕ). AreTold profile limits u k.path t) d.1 k.blocks) h.blocks).1 ∙ sym (append-nil s))
        | inr d ↦ kept_goes h.front s t h.block d
      ]

  all_stays : (bytes back : List ℕ) (s t : List Told) → AreToldBy profile limits bytes s → AreAllTold profile limits (bytes ++ back) t → Goes s t
  all_stays bytes back s t (inl h) k =
      from_left_out (bytes ++ back) h.front (h.tail ++ back) h.path s t h.blocks h.left_out (ap (λ (u : List ℕ). u ++ back) h.split ∙ append_assoc h.front h.tail back) (out_all (bytes ++ back) t k)
  all_stays bytes back s t (inr h) k =
      kept_goes h.front s t h.block (all_kept (bytes ++ back) h.front h.path s t h.block (h.tail ++ back) h.blocks h.follows (within_text bytes back h.front h.block.bytes h.tail h.split) k)

  pub told_stays : (bytes back : List ℕ) (s t : List Told) → AreToldBy profile limits bytes s → AreToldOf profile limits (bytes ++ back) t →
      (rest : List Told) × (t ≡ s ++ rest)
  told_stays bytes back s t h (inl k) = by_stays bytes back s t h k
  told_stays bytes back s t h (inr k) = all_stays bytes back s t h k

-- ---- Plain reading

-- But for the limit of the whole stream, a byte stops plain reading as it stops a block.
module _ (profile : Profile) (limits : Limits) where
  as_block : (bytes : List ℕ) → limits.max_stream ≤ 18446744073709551615 → IsSnapUnstopped profile limits bytes →
      IsSnapUnstopped profile (block_limits limits) bytes
  as_block bytes few u k h =
      let p : IsSnapPassed profile limits bytes k = u k h in
      let m : length bytes ≤ limits.max_stream = unstopped_within profile limits bytes u in
      record { viable = p.viable; short = p.short; few = p.few; before = λ z. absurd (omega (arith, z, h, m, few)) }

  as_stream : (bytes : List ℕ) → length bytes ≤ limits.max_stream → IsSnapUnstopped profile (block_limits limits) bytes → IsSnapUnstopped profile limits bytes
  as_stream bytes within u k h =
      let p : IsSnapPassed profile (block_limits limits) bytes k = u k h in
      record { viable = p.viable; short = p.short; few = p.few; before = λ z. absurd (omega (arith, z, h, within)) }

  pub plain_unstopped : (bytes : List ℕ) → limits.max_stream ≤ 18446744073709551615 →
      IsSnapUnstopped profile limits bytes ↔ (IsSnapUnstopped profile (block_limits limits) bytes × (length bytes ≤ limits.max_stream))
  plain_unstopped bytes few = (λ u. (as_block bytes few u, unstopped_within profile limits bytes u), λ h. as_stream bytes h.1 h.0)

  plain_at : (bytes : List ℕ) (k : ℕ) (stop : Stop) (cause : Cause) → IsCause cause stop → IsSnapStopAt profile limits bytes k stop →
      IsSnapStopAt profile (block_limits limits) bytes k stop
  plain_at bytes k stop (causes.Refused why) c h = subst (λ (x : Stop). IsSnapStopAt profile (block_limits limits) bytes k x) (sym c.1) (subst (λ (x : Stop). IsSnapStopAt profile limits bytes k x) c.1 h)
  plain_at bytes k stop causes.TooLong c h = subst (λ (x : Stop). IsSnapStopAt profile (block_limits limits) bytes k x) (sym c.1) (subst (λ (x : Stop). IsSnapStopAt profile limits bytes k x) c.1 h)
  plain_at bytes k stop causes.TooMany c h = subst (λ (x : Stop). IsSnapStopAt profile (block_limits limits) bytes k x) (sym c.1) (subst (λ (x : Stop). IsSnapStopAt profile limits bytes k x) c.1 h)

  pub plain_stopped : (bytes : List ℕ) (stop : Stop) (cause : Cause) → limits.max_stream ≤ 18446744073709551615 → SnapStopOf profile limits bytes stop →
      IsCause cause stop → SnapStopOf profile (block_limits limits) bytes stop
  plain_stopped bytes stop cause few h c = record {
    place = h.place;
    within = h.within;
    unstopped = as_block (take h.place bytes) few h.unstopped;
    stops = plain_at bytes h.place stop cause c h.stops;
  }
