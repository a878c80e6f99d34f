-- What follows for the tree of keys, and what becomes of it where a key is added.
use Rattle.std.proofs.Common.{◌≡◌, ℕ, ◌+◌, ◌-◌, ◌<◌, ◌≤◌, ◌^◌, ◌⊎◌, inl, inr, List, [], ◌∷◌, ◌++◌, length, Some, Bool, true, false, not, IsTrue}
use Rattle.std.proofs.Common.{refl, sym, ap, subst, ◌∙◌, arith}
use Rattle.std.proofs.Math.Seq.{get_or-append_seam}
use Rattle.std.proofs.lemmas.Bool.{cases_lt, cases_order}
use Rattle.std.proofs.lemmas.List.{get_or_append_left, length_push}
use Rattle.cg_index.specs.Position.{number, side}
use Rattle.cg_index.specs.declared.fork.Fork.{Fork}
use Rattle.cg_index.specs.declared.fork.Edge.{Edge}
use Rattle.cg_index.specs.declared.fork.Link.{Link}
use Rattle.cg_index.specs.declared.fork.Link.TheVariants as link
use Rattle.cg_index.specs.Tree.{at, child, way, fork_at, key_at, IsBelow, IsTree, Reaches, stop, step, Leads, here, turn, IsOf, IsFrom, IsTurn, IsEdge}

-- Links.

below_weaker : (forks : List Fork) (low lower : ℕ) (l : Link) → lower ≤ low → IsBelow forks low l → IsBelow forks lower l
below_weaker forks low lower (link.Key k) le h = h
below_weaker forks low lower (link.Fork f) le h = (h.0, h.1, omega (arith, h.2))

below_key : (forks : List Fork) (low : ℕ) (l : Link) (k : ℕ) → l ≡ link.Key k → IsBelow forks low l → k < length forks
below_key forks low (link.Key j) k e h =
    let same : j ≡ k = cc in
    omega (arith, h)
below_key forks low (link.Fork f) k e h = cc

pub below_fork : (forks : List Fork) (low : ℕ) (l : Link) (f : ℕ) → l ≡ link.Fork f → IsBelow forks low l → (0 < f) × (f < length forks) × (low ≤ at forks f)
below_fork forks low (link.Key j) f e h = cc
below_fork forks low (link.Fork g) f e h =
    let same : g ≡ f = cc in
    rw same at h

-- Ways.

then : {forks : List Fork} {a b c : Link} → Reaches forks a b → Reaches forks b c → Reaches forks a c
then stop s = s
then (step digit r) s = step digit (then r s)

from_key : {forks : List Fork} {a b : Link} (k : ℕ) → Reaches forks a b → a ≡ link.Key k → b ≡ link.Key k
from_key k stop e = e
from_key k (step digit r) e = cc

led : {forks : List Fork} {key : List ℕ} {l : Link} {k : ℕ} → Leads forks key l k → Reaches forks l (link.Key k)
led here = stop
led (turn w) = step _ (led w)

-- The key to which a walk leads is the only one that can have these sides.
only_from : {forks : List Fork} {root : Link} {keys : List (List ℕ)} (tree : IsTree forks root) (of : IsOf forks root keys) →
    {key : List ℕ} {l : Link} {k : ℕ} (j low : ℕ) → Leads forks key l k → IsBelow forks low l → j < length forks →
    key_at keys j ≡ key → Reaches forks l (link.Key j) → j ≡ k
only_from tree of j low here below h same r = let e = from_key _ r refl in cc
only_from {forks} {root} {keys} tree of {key} j low (turn {f} w) below h same (step digit r) =
    let digit_is : digit ≡ side key (at forks f) = sym (of.sides f j digit below.0 below.1 h r) ∙ ap (λ (x : List ℕ). side x (at forks f)) same in
    only_from tree of j (at forks f + 1) w (tree.rising f (side key (at forks f)) below.0 below.1) h same
    (subst (λ (d : Bool). Reaches forks (child forks f d) (link.Key j)) digit_is r)

pub only_nearest : {forks : List Fork} {root : Link} {keys : List (List ℕ)} → IsTree forks root → IsOf forks root keys →
    (key : List ℕ) (j k : ℕ) → Leads forks key root k → j < length keys → key_at keys j ≡ key → j ≡ k
only_nearest tree of key j k w h same =
    only_from tree of j 0 w (tree.rooted (omega (arith, of.count, h))) (omega (arith, of.count, h)) same (of.reached j (omega (arith, of.count, h)))

-- What a link leads to is there.
reached_within : {forks : List Fork} {root : Link} (tree : IsTree forks root) → {a b : Link} (k low : ℕ) → Reaches forks a b →
    b ≡ link.Key k → IsBelow forks low a → k < length forks
reached_within {forks} tree {a} k low stop e below = below_key forks low a k e below
reached_within {forks} tree k low (step {f} digit r) e below =
    reached_within tree k (at forks f + 1) r e (tree.rising f digit below.0 below.1)

pub nearest_within : {forks : List Fork} {root : Link} → IsTree forks root → 0 < length forks → {key : List ℕ} {k : ℕ} → Leads forks key root k → k < length forks
nearest_within tree some w = reached_within tree _ 0 (led w) refl (tree.rooted some)

-- A key is added.

-- The link of the new tree is that of the old one, or leads to the new fork n in place of the link that goes on from there.
abbrev pub StandsFor : ℕ → Link → Link → Link → Type 0
StandsFor n to l m = (l ≡ m) ⊎ ((l ≡ link.Fork n) × (m ≡ to))

-- The new forks are the old ones and one at d, from which the key goes on to its own number and others as before; one link leads to it.
pub record IsGrown (old new : List Fork) (root top : Link) (key : List ℕ) (d : ℕ) (to : Link) : Type 0 where
  pub count : length new ≡ length old + 1
  pub kept : (f : ℕ) → f < length old → at new f ≡ at old f
  pub added : at new (length old) ≡ d
  pub own : child new (length old) (side key d) ≡ link.Key (length old)
  pub other : child new (length old) (not (side key d)) ≡ to
  pub stands : (f : ℕ) (digit : Bool) → 0 < f → f < length old → StandsFor (length old) to (child new f digit) (child old f digit)
  pub turns : (f : ℕ) (digit : Bool) → 0 < f → f < length old → child new f digit ≡ link.Fork (length old) → at old f < d
  pub top_stands : StandsFor (length old) to top root
  pub reached : (top ≡ link.Fork (length old)) ⊎ ((f : ℕ) × (digit : Bool) × (child new f digit ≡ link.Fork (length old)) × Reaches old root (link.Fork f))

pub side_cases : (a b : Bool) → (a ≡ b) ⊎ (a ≡ not b)
side_cases true true = inl refl
side_cases true false = inr refl
side_cases false true = inr refl
side_cases false false = inl refl

pub not_self : (b : Bool) → b ≡ not b → ⊥
not_self true e = cc
not_self false e = cc

-- A fork whose child leads to the new key comes before d, if each fork behind it does.
before_d : (old : List Fork) (d n f : ℕ) (m t : Link) → IsBelow old (at old f + 1) m → n ≡ length old → t ≡ link.Key n →
    ((k : ℕ) → m ≡ link.Key k → t ≡ link.Key k) →
    ((g : ℕ) → m ≡ link.Fork g → 0 < g → g < length old → at old g < d) → at old f < d
before_d old d n f (link.Key k) t below is e ends more =
    let f = ends k refl in
    let same : n ≡ k = cc in
    absurd (omega (arith, below))
before_d old d n f (link.Fork g) t below is e ends more = omega (arith, below.2, more g refl below.0 below.1)

module _ {old new : List Fork} {root top : Link} {key : List ℕ} {d : ℕ} {to : Link} (tree : IsTree old root) (grown : IsGrown old new root top key d to) where
  standing : (l m t : Link) → StandsFor (length old) to l m → Reaches new m t → Reaches new l t
  standing l m t s r = elim s [
    | inl e ↦ rw e r
    | inr e ↦ rw (e.0) (step {f = length old} {a = t} (not (side key d)) (rw (grown.other, ← e.1) r))
  ]

  forward : {m t : Link} (low : ℕ) → Reaches old m t → IsBelow old low m → Reaches new m t
  forward low stop below = stop
  forward {m} {t} low (step {f} digit r) below =
      step digit (standing (child new f digit) (child old f digit) t (grown.stands f digit below.0 below.1)
      (forward (at old f + 1) r (tree.rising f digit below.0 below.1)))

  back : {l t : Link} (m : Link) (k low : ℕ) → Reaches new l t → t ≡ link.Key k → k < length old → StandsFor (length old) to l m → IsBelow old low m → Reaches old m (link.Key k)
  back m k low stop e less s below = elim s [
    | inl same ↦ rw (sym same ∙ e) stop
    | inr turns ↦ cc
  ]
  back m k low (step {f} digit r) e less s below = elim s [
    | inl same ↦
        let there = below_fork old low m f (sym same) below in
        rw (sym same) (step digit (back (child old f digit) k (at old f + 1) r e less (grown.stands f digit there.0 there.1) (tree.rising f digit there.0 there.1)))
    | inr turns ↦
        let is : f ≡ length old = cc in
        elim (side_cases digit (side key d)) [
          | inl own ↦
              let to_own : child new f digit ≡ link.Key (length old) = rw (is, own) grown.own in
              let ends = from_key (length old) r to_own in
              let same : k ≡ length old = cc in
              absurd (omega arith)
          | inr other ↦
              let to_other : child new f digit ≡ to = rw (is, other) grown.other in
              back m k low r e less (inl (to_other ∙ sym turns.1)) below
        ]
  ]

  -- What leads to the new key led to each key behind the link that now leads to the new fork.
  back_new : {l t : Link} (m : Link) (k low : ℕ) → Reaches new l t → t ≡ link.Key (length old) → StandsFor (length old) to l m → IsBelow old low m → Reaches old to (link.Key k) → Reaches old m (link.Key k)
  back_new m k low stop e s below behind = elim s [
    | inl same ↦
        let within : length old < length old = below_key old low m (length old) (sym same ∙ e) below in
        absurd (omega arith)
    | inr turns ↦ cc
  ]
  back_new m k low (step {f} digit r) e s below behind = elim s [
    | inl same ↦
        let there = below_fork old low m f (sym same) below in
        rw (sym same) (step digit (back_new (child old f digit) k (at old f + 1) r e (grown.stands f digit there.0 there.1) (tree.rising f digit there.0 there.1) behind))
    | inr turns ↦ rw (turns.1) behind
  ]

  -- The forks that lead to the new key come before its own.
  new_before : {l t : Link} (f : ℕ) → Reaches new l t → t ≡ link.Key (length old) → l ≡ link.Fork f → 0 < f → f < length old → at old f < d
  new_before f stop e is some less = cc
  new_before f (step {f = g} digit r) e is some less =
      let same : g ≡ f = cc in
      elim (grown.stands f digit some less) [
        | inl kept ↦
            let here : child new g digit ≡ child old f digit = rw same kept in
            before_d old d (length old) f (child old f digit) _ (tree.rising f digit some less) refl e
            (λ k k_is. from_key k r (here ∙ k_is))
            (λ h h_is more within. new_before h r e (here ∙ h_is) more within)
        | inr turns ↦ grown.turns f digit some less (turns.0)
      ]

  grown_kept : (m : Link) (low : ℕ) → IsBelow old low m → IsBelow new low m
  grown_kept (link.Key k) low b = omega (arith, b, grown.count)
  grown_kept (link.Fork f) low b = (b.0, omega (arith, b.1, grown.count), rw (grown.kept f b.1) b.2)

  grown_below : (l m : Link) (low : ℕ) → StandsFor (length old) to l m → IsBelow old low m → (l ≡ link.Fork (length old) → low ≤ d) → 0 < length old → IsBelow new low l
  grown_below l m low s below early some = elim s [
    | inl same ↦ rw same (grown_kept m low below)
    | inr turns ↦
        let low_is = early (turns.0) in
        rw (turns.0) (some, omega (arith, grown.count), rw (grown.added) low_is)
  ]

  pub IsTree-grown : (digits : (f : ℕ) → f < length new → (fork_at new f).at.digit < 8) → (bytes : (f : ℕ) → f < length new → (fork_at new f).at.byte < 2 ^ 64) →
      0 < length old → IsBelow old (d + 1) to → IsTree new top
  IsTree-grown digits bytes some above = record {
    rooted = λ _. grown_below top root 0 grown.top_stands (tree.rooted some) (λ _. omega arith) some;
    rising = λ f digit more within. elim (cases_lt f (length old)) [
      | inl less ↦ rw (grown.kept f less) (grown_below (child new f digit) (child old f digit) (at old f + 1) (grown.stands f digit more less) (tree.rising f digit more less)
          (λ turns. let before = grown.turns f digit more less turns in omega arith) some)
      | inr last ↦
          let is : f ≡ length old = omega (arith, within, grown.count) in
          rw (is, grown.added) (elim (side_cases digit (side key d)) [
            | inl own ↦ rw (own, grown.own) (omega (arith, grown.count))
            | inr other ↦ rw (other, grown.other) (grown_kept to (d + 1) above)
          ])
    ];
    digits = digits;
    bytes = bytes;
  }

-- The keys differ at the position, and nowhere before.
pub record IsFirst (key near : List ℕ) (d : ℕ) : Type 0 where
  pub differs : side near d ≡ not (side key d)
  pub below : (p : ℕ) → p < d → side key p ≡ side near p

-- The key near is the one to which the walk by the new key leads.
pub record IsFound (forks : List Fork) (root : Link) (keys : List (List ℕ)) (key near : List ℕ) (d : ℕ) (to : Link) (k : ℕ) : Type 0 where
  pub within : k < length forks
  pub is : key_at keys k ≡ near
  pub leads : Leads forks key to k
  pub behind : IsBelow forks d to
  pub first : IsFirst key near d

module _ {old : List Fork} {root : Link} {keys : List (List ℕ)} {key near : List ℕ} {d : ℕ} {to : Link} {k : ℕ} (tree : IsTree old root) (of : IsOf old root keys) (found : IsFound old root keys key near d to k) where
  above_from : (m : Link) → IsBelow old d m → Leads old key m k → IsBelow old (d + 1) m
  above_from (link.Key j) below w = below
  above_from (link.Fork f) below (turn w) =
      let digit_is : side near (at old f) ≡ side key (at old f) = ap (λ (x : List ℕ). side x (at old f)) (sym found.is) ∙ of.sides f k (side key (at old f)) below.0 below.1 found.within (led w) in
      elim (cases_order d (at old f)) [
        | inl same ↦ absurd (not_self (side key d) (let here : side near d ≡ side key d = rw same digit_is in sym here ∙ found.first.differs))
        | inr (inl less) ↦ (below.0, below.1, omega arith)
        | inr (inr more) ↦ absurd (omega (arith, below.2))
      ]

  -- The new fork is apart from the next.
  pub above : IsBelow old (d + 1) to
  above = above_from to found.behind found.leads

  same_from : (m : Link) (j p : ℕ) → IsBelow old (d + 1) m → Leads old key m k → j < length old → Reaches old m (link.Key j) → p ≤ d → side (key_at keys j) p ≡ side near p
  same_from (link.Key i) j p below w h r le =
      let e = from_key i r refl in
      let f = from_key i (led w) refl in
      let same : j ≡ k = cc in
      rw same (ap (λ (x : List ℕ). side x p) found.is)
  same_from (link.Fork f) j p below w h r le =
      of.agree f j k p below.0 below.1 h found.within r (led w) (omega (arith, below.2)) ∙ ap (λ (x : List ℕ). side x p) found.is

  -- Each key behind the new fork is the same as the near one up to there.
  same_behind : (j p : ℕ) → j < length old → Reaches old to (link.Key j) → p ≤ d → side (key_at keys j) p ≡ side near p
  same_behind j p h r le = same_from to j p above found.leads h r le

  old_key : (j : ℕ) → j < length old → key_at (keys ++ key ∷ []) j ≡ key_at keys j
  old_key j h = get_or_append_left keys (key ∷ []) [] j (omega (arith, of.count))

  new_key : (j : ℕ) → j ≡ length old → key_at (keys ++ key ∷ []) j ≡ key
  new_key j e = rw (e, of.count) (get_or-append_seam keys key [] [])

  module _ {new : List Fork} {top : Link} (grown : IsGrown old new root top key d to) where
    -- What is reached in the new tree is as one of the old keys that is reached there, before the new position.
    pub record IsAs (m : Link) (j : ℕ) : Type 0 where
      pub old_one : ℕ
      pub there : old_one < length old
      pub way : Reaches old m (link.Key old_one)
      pub same : (p : ℕ) → (j ≡ length old → p < d) → side (key_at (keys ++ key ∷ []) j) p ≡ side (key_at keys old_one) p

    as_old : {l : Link} (m : Link) (j low : ℕ) → j < length new → Reaches new l (link.Key j) → StandsFor (length old) to l m → IsBelow old low m → IsAs m j
    as_old m j low h r s below = elim (cases_lt j (length old)) [
      | inl less ↦ record {
        old_one = j;
        there = less;
        way = back tree grown m j low r refl less s below;
        same = λ p _. ap (λ (x : List ℕ). side x p) (old_key j less);
      }
      | inr last ↦
          let is : j ≡ length old = omega (arith, grown.count) in
          record {
            old_one = k;
            there = found.within;
            way = back_new tree grown m k low r (ap link.Key is) s below (led found.leads);
            same = λ p before. ap (λ (x : List ℕ). side x p) (new_key j is) ∙ found.first.below p (before is) ∙ ap (λ (x : List ℕ). side x p) (sym found.is);
          }
    ]

    -- The new key isn't behind what the new fork leads to beside it.
    not_behind : {j : ℕ} (m : Link) → IsBelow old (d + 1) m → Reaches new m (link.Key j) → j ≡ length old → ⊥
    not_behind {j} (link.Key i) below r is =
        let ends = from_key i r refl in
        let same : j ≡ i = cc in
        omega (arith, below)
    not_behind (link.Fork f) below r is =
        let before = new_before tree grown f r (ap link.Key is) refl below.0 below.1 in
        omega (arith, below.2)

    new_sides : (f j : ℕ) (digit : Bool) → 0 < f → f < length new → j < length new → Reaches new (child new f digit) (link.Key j) → side (key_at (keys ++ key ∷ []) j) (at new f) ≡ digit
    new_sides f j digit some within h r = elim (cases_lt f (length old)) [
      | inl less ↦
          let one = as_old (child old f digit) j (at old f + 1) h r (grown.stands f digit some less) (tree.rising f digit some less) in
          rw (grown.kept f less) (one.same (at old f) (λ is. new_before tree grown f (step digit r) (ap link.Key is) refl some less)
          ∙ of.sides f one.old_one digit some less one.there one.way)
      | inr last ↦
          let is : f ≡ length old = omega (arith, within, grown.count) in
          rw (is, grown.added) (elim (side_cases digit (side key d)) [
            | inl own ↦
                let to_own : child new f digit ≡ link.Key (length old) = rw (is, own) grown.own in
                let ends = from_key (length old) r to_own in
                let same : j ≡ length old = cc in
                ap (λ (x : List ℕ). side x d) (new_key j same) ∙ sym own
            | inr other ↦
                let to_other : child new f digit ≡ to = rw (is, other) grown.other in
                elim (cases_lt j (length old)) [
                  | inl less ↦
                      ap (λ (x : List ℕ). side x d) (old_key j less)
                      ∙ same_behind j d less (back tree grown to j (d + 1) r refl less (inl to_other) above) (omega arith)
                      ∙ found.first.differs ∙ sym other
                  | inr more ↦
                      let same : j ≡ length old = omega (arith, h, grown.count) in
                      absurd (not_behind to above (subst (λ (l : Link). Reaches new l (link.Key j)) to_other r) same)
                ]
          ])
    ]

    -- Up to the new position, each key behind the new fork is the same as the near one.
    same_new : (j p : ℕ) → j < length new → Reaches new (link.Fork (length old)) (link.Key j) → p < d → side (key_at (keys ++ key ∷ []) j) p ≡ side near p
    same_new j p h r less = elim (cases_lt j (length old)) [
      | inl old_one ↦
          ap (λ (x : List ℕ). side x p) (old_key j old_one)
          ∙ same_behind j p old_one (back tree grown to j (d + 1) r refl old_one (inr (refl, refl)) above) (omega arith)
      | inr last ↦
          let is : j ≡ length old = omega (arith, h, grown.count) in
          ap (λ (x : List ℕ). side x p) (new_key j is) ∙ found.first.below p less
    ]

    new_agree : (f i j p : ℕ) → 0 < f → f < length new → i < length new → j < length new →
        Reaches new (link.Fork f) (link.Key i) → Reaches new (link.Fork f) (link.Key j) → p < at new f →
        side (key_at (keys ++ key ∷ []) i) p ≡ side (key_at (keys ++ key ∷ []) j) p
    new_agree f i j p some within h m r s less = elim (cases_lt f (length old)) [
      | inl old_one ↦
          let kept = grown.kept f old_one in
          let below : IsBelow old 0 (link.Fork f) = (some, old_one, omega arith) in
          let one = as_old (link.Fork f) i 0 h r (inl refl) below in
          let other = as_old (link.Fork f) j 0 m s (inl refl) below in
          let early : p < at old f = omega (arith, kept, less) in
          one.same p (λ is. let before = new_before tree grown f r (ap link.Key is) refl some old_one in omega arith)
          ∙ of.agree f one.old_one other.old_one p some old_one one.there other.there one.way other.way early
          ∙ sym (other.same p (λ is. let before = new_before tree grown f s (ap link.Key is) refl some old_one in omega arith))
      | inr last ↦
          let is : f ≡ length old = omega (arith, within, grown.count) in
          let early : p < d = let known : p < at new (length old) = rw is at less in omega (arith, known, grown.added) in
          let at_new = subst (λ (g : ℕ). Reaches new (link.Fork g) (link.Key i)) is r in
          let at_other = subst (λ (g : ℕ). Reaches new (link.Fork g) (link.Key j)) is s in
          same_new i p h at_new early ∙ sym (same_new j p m at_other early)
    ]

    to_new : Reaches new (link.Fork (length old)) (link.Key (length old))
    to_new = step {f = length old} {a = link.Key (length old)} (side key d) (rw (grown.own) stop)

    new_reached : 0 < length old → (j : ℕ) → j < length new → Reaches new top (link.Key j)
    new_reached some j h = elim (cases_lt j (length old)) [
      | inl less ↦ standing tree grown top root (link.Key j) grown.top_stands (forward tree grown 0 (of.reached j less) (tree.rooted some))
      | inr last ↦
          let is : j ≡ length old = omega (arith, h, grown.count) in
          rw is (elim (grown.reached) [
            | inl at_top ↦ rw at_top to_new
            | inr under ↦
                then (standing tree grown top root (link.Fork under.0) grown.top_stands (forward tree grown 0 under.3 (tree.rooted some)))
                (step {f = under.0} {a = link.Key (length old)} under.1 (rw (under.2) to_new))
          ])
    ]

    -- The new tree is one of the old keys and the new one.
    pub IsOf-grown : 0 < length old → IsOf new top (keys ++ key ∷ [])
    IsOf-grown some = record {
      count = rw length_push (grown.count ∙ ap (λ (n : ℕ). n + 1) of.count);
      reached = new_reached some;
      sides = new_sides;
      agree = new_agree;
    }

-- Walks.

-- What is left of a walk: it falls with each step.
abbrev pub left : List Fork → Link → ℕ
left forks (link.Key k) = 0
left forks (link.Fork f) = 2 ^ 67 - at forks f

-- A walk by the sides of the key has come over this edge, and no fork before it stands at the position or after it.
pub record IsWalk (forks : List Fork) (root : Link) (key : List ℕ) (position : ℕ) (edge : Edge) : Type 0 where
  pub from : IsFrom forks root key position edge.from edge.to
  pub turns : IsTurn forks key edge.from edge.digit
  pub below : IsBelow forks 0 edge.to
  pub behind : (l : Link) → Reaches forks edge.to l → Reaches forks root l
  pub leads : (k : ℕ) → Leads forks key root k → Leads forks key edge.to k

at_bounded : {forks : List Fork} {root : Link} → IsTree forks root → (f : ℕ) → f < length forks → at forks f < 2 ^ 67
unfolding at
at_bounded tree f h = omega (arith, tree.digits f h, tree.bytes f h)

module _ {forks : List Fork} {root : Link} (tree : IsTree forks root) (f : ℕ) (some : 0 < f) (within : f < length forks) (digit : Bool) where
  left_below : (l : Link) → IsBelow forks (at forks f + 1) l → left forks l < left forks (link.Fork f)
  left_below (link.Key k) below = omega (arith, at_bounded tree f within)
  left_below (link.Fork h) below = omega (arith, at_bounded tree f within, at_bounded tree h below.1, below.2)

  -- A walk goes on.
  pub left_falls : (l : Link) → l ≡ child forks f digit → left forks l < left forks (link.Fork f)
  left_falls l is = rw is (left_below (child forks f digit) (tree.rising f digit some within))

  pub goes_on : (l : Link) → l ≡ child forks f digit → IsBelow forks 0 l
  goes_on l is = rw is (below_weaker forks (at forks f + 1) 0 (child forks f digit) (omega arith) (tree.rising f digit some within))

-- What is read of a fork.

module _ (forks : List Fork) (f : ℕ) (fork : Fork) (read : fork_at forks f ≡ fork) where
  pub at_read : at forks f ≡ number fork.at
  unfolding at
  at_read = ap (λ (x : Fork). number x.at) read

  pub turn_read : (key : List ℕ) (digit : Bool) → digit ≡ side key (number fork.at) → digit ≡ side key (at forks f)
  turn_read key digit d = d ∙ ap (side key) (sym at_read)

  pub child_read : (key : List ℕ) (digit : Bool) (l : Link) → digit ≡ side key (number fork.at) → l ≡ way fork digit → l ≡ child forks f (side key (at forks f))
  unfolding child
  child_read key digit l d e = e ∙ ap (way fork) (d ∙ ap (side key) (sym at_read)) ∙ ap (λ (x : Fork). way x (side key (at forks f))) (sym read)

  pub digit_read : {root : Link} → IsTree forks root → f < length forks → fork.at.digit < 8
  digit_read tree h = let known = tree.digits f h in rw read at known

-- A step of a walk.

leads_on : {forks : List Fork} {key : List ℕ} {f k : ℕ} → Leads forks key (link.Fork f) k → Leads forks key (child forks f (side key (at forks f))) k
leads_on (turn w) = w

module _ {forks : List Fork} {root : Link} (tree : IsTree forks root) {key : List ℕ} {position : ℕ} {edge : Edge} (walk : IsWalk forks root key position edge) {f : ℕ} (is : edge.to ≡ link.Fork f) where
  pub walk_within : (0 < f) × (f < length forks)
  walk_within = let there = below_fork forks 0 edge.to f is walk.below in (there.0, there.1)

  pub walk_on : (digit : Bool) (l : Link) → digit ≡ side key (at forks f) → l ≡ child forks f (side key (at forks f)) → at forks f < position → IsWalk forks root key position (record { from = Some f; digit = digit; to = l })
  walk_on digit l turns goes before = record {
    from = record {
      some = walk_within.0;
      within = walk_within.1;
      before = before;
      goes = sym goes;
      reached = walk.behind (link.Fork f) (rw is stop);
    };
    turns = turns;
    below = goes_on tree f walk_within.0 walk_within.1 (side key (at forks f)) l goes;
    behind = λ m r. walk.behind m (rw is (step {f = f} {a = m} (side key (at forks f)) (rw (← goes) r)));
    leads = λ k w. let led_on = walk.leads k w in rw goes (leads_on (rw is at led_on));
  }

  pub walk_ends : position ≤ at forks f → IsEdge forks root key position edge
  walk_ends le = record {
    from = walk.from;
    turns = walk.turns;
    behind = rw is (walk_within.0, walk_within.1, le);
    leads = walk.leads;
  }

-- What a failed test says.
pub not_before : (before : Bool) (a b : ℕ) → (a < b → IsTrue before) → before ≡ false → b ≤ a
not_before before a b holds fails = elim (cases_lt a b) [
  | inl less ↦
      let did = holds less in
      absurd (cc)
  | inr more ↦ more
]
