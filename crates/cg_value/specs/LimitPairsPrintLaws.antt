-- The limits of a device in one order are a text of them.
use Rattle.std.proofs.Common.{◌≡◌, ℕ, true, false, List, [], ◌∷◌, ◌++◌, Option, Some, None, codes, refl, sym, ◌∙◌, ap, append_assoc, arith}
use Rattle.cg_text.specs.LimitPairs.{key_text, is_key, limit_of, HasDistinctKeys, IsLimitPair, AreLimitPairs, AreLimits}
use Rattle.cg_text.specs.declared.pairs.LimitKey.{LimitKey}
use Rattle.cg_text.specs.declared.pairs.LimitKey.TheVariants.{Rbps, Wbps, Riops, Wiops}
use Rattle.cg_text.specs.declared.pairs.LimitPairs.{LimitPairs}
use Rattle.cg_text.specs.declared.values.Limit.{Limit}
use Rattle.cg_value.specs.Kind.{any_u64}
use Rattle.cg_value.specs.Print.{print_limit, print_given}
use Rattle.cg_value.specs.PrintTokenLaws.{limit_prints}
use Rattle.cg_value.specs.Within.{IsLimitWithin, IsGivenLimitWithin, NoneGiven, AreLimitsWithin}

-- The pair of a key, where its limit is given.
abbrev pub given : LimitKey → Option Limit → List (LimitKey × Limit)
given key None = []
given key (Some l) = (key, l) ∷ []

abbrev pub pairs_of : LimitPairs → List (LimitKey × Limit)
pairs_of v = given Rbps v.rbps ++ (given Wbps v.wbps ++ (given Riops v.riops ++ given Wiops v.wiops))

abbrev pub pair_text : LimitKey × Limit → List ℕ
pair_text p = key_text (p.0) ++ 61 ∷ print_limit (p.1)

-- The pairs with single spaces between, and with a space before each.
abbrev joined : LimitKey × Limit → List (LimitKey × Limit) → List ℕ
joined p [] = pair_text p
joined p (q ∷ ps) = pair_text p ++ 32 ∷ joined q ps

abbrev pub led : List (LimitKey × Limit) → List ℕ
led [] = []
led (p ∷ ps) = 32 ∷ (pair_text p ++ led ps)

append_nil : (xs : List ℕ) → xs ++ [] ≡ xs
append_nil [] = refl
append_nil (x ∷ xs) = ap (λ ys. x ∷ ys) (append_nil xs)

led_joined : (p : LimitKey × Limit) (ps : List (LimitKey × Limit)) → led (p ∷ ps) ≡ 32 ∷ joined p ps
led_joined p [] = ap (λ t. 32 ∷ t) (append_nil (pair_text p))
led_joined p (q ∷ ps) = ap (λ t. 32 ∷ (pair_text p ++ t)) (led_joined q ps)

led_both : (ps qs : List (LimitKey × Limit)) → led (ps ++ qs) ≡ led ps ++ led qs
led_both [] qs = refl
led_both (p ∷ ps) qs = ap (λ t. 32 ∷ (pair_text p ++ t)) (led_both ps qs) ∙ ap (λ t. 32 ∷ t) (sym (append_assoc (pair_text p) (led ps) (led qs)))

led_given : (key : LimitKey) (o : Option Limit) → led (given key o) ≡ print_given (32 ∷ (key_text key ++ 61 ∷ [])) print_limit o
led_given key None = refl
led_given Rbps (Some l) = ap (λ t. codes " rbps=" ++ t) (append_nil (print_limit l))
led_given Wbps (Some l) = ap (λ t. codes " wbps=" ++ t) (append_nil (print_limit l))
led_given Riops (Some l) = ap (λ t. codes " riops=" ++ t) (append_nil (print_limit l))
led_given Wiops (Some l) = ap (λ t. codes " wiops=" ++ t) (append_nil (print_limit l))

-- What is printed of the limits is their pairs, each with a space before it.
pub limits_led : (front : List ℕ) (v : LimitPairs) →
    front ++ print_given (codes " rbps=") print_limit v.rbps ++ print_given
    (codes " wbps=") print_limit v.wbps ++ print_given (codes " riops=") print_limit v.riops ++ print_given
    (codes " wiops=") print_limit v.wiops ≡ front ++ led (pairs_of v)
limits_led front v =
    let last = led_both (given Riops v.riops) (given Wiops v.wiops) in
    let more = led_both (given Wbps v.wbps) (given Riops v.riops ++ given Wiops v.wiops) in
    let all = led_both (given Rbps v.rbps) (given Wbps v.wbps ++ (given Riops v.riops ++ given Wiops v.wiops)) in
    rw (all, more, last, led_given Rbps v.rbps, led_given Wbps v.wbps, led_given Riops v.riops, led_given Wiops v.wiops) (simp append_assoc)

-- The pairs give back the limits, and have distinct keys.
given_other : (key other : LimitKey) (o : Option Limit) (ps : List (LimitKey × Limit)) → is_key key other ≡ false → limit_of key (given other o ++ ps) ≡ limit_of key ps
given_other key other None ps e = refl
given_other key other (Some l) ps e = rw e

given_here : (key : LimitKey) (o : Option Limit) (ps : List (LimitKey × Limit)) → is_key key key ≡ true → limit_of key ps ≡ None → limit_of key (given key o ++ ps) ≡ o
given_here key None ps e h = h
given_here key (Some l) ps e h = rw e

given_alone : (key : LimitKey) (o : Option Limit) → is_key key key ≡ true → limit_of key (given key o) ≡ o
given_alone key None e = refl
given_alone key (Some l) e = rw e

given_absent : (key other : LimitKey) (o : Option Limit) → is_key key other ≡ false → limit_of key (given other o) ≡ None
given_absent key other None e = refl
given_absent key other (Some l) e = rw e

given_distinct : (key : LimitKey) (o : Option Limit) (ps : List (LimitKey × Limit)) → limit_of key ps ≡ None → HasDistinctKeys ps → HasDistinctKeys (given key o ++ ps)
given_distinct key None ps e h = h
given_distinct key (Some l) ps e h = (e, h)

alone_distinct : (key : LimitKey) (o : Option Limit) → HasDistinctKeys (given key o)
alone_distinct key None = tt
alone_distinct key (Some l) = (refl, tt)

module _ (v : LimitPairs) where
  abbrev two : List (LimitKey × Limit)
  two = given Riops v.riops ++ given Wiops v.wiops

  abbrev three : List (LimitKey × Limit)
  three = given Wbps v.wbps ++ two

  no_wbps : limit_of Wbps two ≡ None
  no_wbps = given_other Wbps Riops v.riops (given Wiops v.wiops) refl ∙ given_absent Wbps Wiops v.wiops refl

  no_rbps : limit_of Rbps three ≡ None
  no_rbps = given_other Rbps Wbps v.wbps two refl ∙ given_other Rbps Riops v.riops (given Wiops v.wiops) refl ∙ given_absent Rbps Wiops v.wiops refl

  pub pairs_distinct : HasDistinctKeys (pairs_of v)
  pairs_distinct = given_distinct Rbps v.rbps three no_rbps (given_distinct Wbps v.wbps two no_wbps (given_distinct Riops v.riops (given Wiops v.wiops) (given_absent Riops Wiops v.wiops refl) (alone_distinct Wiops v.wiops)))

  pub pairs_rbps : v.rbps ≡ limit_of Rbps (pairs_of v)
  pairs_rbps = sym (given_here Rbps v.rbps three refl no_rbps)

  pub pairs_wbps : v.wbps ≡ limit_of Wbps (pairs_of v)
  pairs_wbps = sym (given_other Wbps Rbps v.rbps three refl ∙ given_here Wbps v.wbps two refl no_wbps)

  pub pairs_riops : v.riops ≡ limit_of Riops (pairs_of v)
  pairs_riops = sym (given_other Riops Rbps v.rbps three refl ∙ given_other Riops Wbps v.wbps two refl ∙ given_here Riops v.riops (given Wiops v.wiops) refl (given_absent Riops Wiops v.wiops refl))

  pub pairs_wiops : v.wiops ≡ limit_of Wiops (pairs_of v)
  pairs_wiops = sym (given_other Wiops Rbps v.rbps three refl ∙ given_other Wiops Wbps v.wbps two refl ∙ given_other Wiops Riops v.riops (given Wiops v.wiops) refl ∙ given_alone Wiops v.wiops refl)

-- Pairs with limits of at least 1 have a text.
abbrev pub AreGood : List (LimitKey × Limit) → Type 0
AreGood [] = Unit {0}
AreGood (p ∷ ps) = IsLimitWithin 1 any_u64 (p.1) × AreGood ps

given_good : (key : LimitKey) (o : Option Limit) (ps : List (LimitKey × Limit)) → IsGivenLimitWithin o → AreGood ps → AreGood (given key o ++ ps)
given_good key None ps h k = k
given_good key (Some l) ps h k = (h, k)

alone_good : (key : LimitKey) (o : Option Limit) → IsGivenLimitWithin o → AreGood (given key o)
alone_good key None h = tt
alone_good key (Some l) h = (h, tt)

pairs_good : (v : LimitPairs) → AreLimitsWithin v → AreGood (pairs_of v)
pairs_good v h = given_good Rbps v.rbps (three v) h.rbps (given_good Wbps v.wbps (two v) h.wbps (given_good Riops v.riops (given Wiops v.wiops) h.riops (alone_good Wiops v.wiops h.wiops)))

pair_prints : (p : LimitKey × Limit) → IsLimitWithin 1 any_u64 (p.1) → IsLimitPair p (pair_text p)
pair_prints p h = (print_limit (p.1), refl, limit_prints 1 any_u64 (p.1) h (omega arith))

joined_are : (p : LimitKey × Limit) (ps : List (LimitKey × Limit)) → AreGood (p ∷ ps) → AreLimitPairs (p ∷ ps) (joined p ps)
joined_are p [] h = pair_prints p h.0
joined_are p (q ∷ ps) h = (pair_text p, joined q ps, refl, pair_prints p h.0, joined_are q ps h.1)

none_given : (key : LimitKey) (o : Option Limit) (ps : List (LimitKey × Limit)) → given key o ++ ps ≡ [] → (o ≡ None) × (ps ≡ [])
none_given key None ps e = (refl, e)
none_given key (Some l) ps e = absurd (cc)

alone_none : (key : LimitKey) (o : Option Limit) → given key o ≡ [] → o ≡ None
alone_none key None e = refl
alone_none key (Some l) e = absurd (cc)

no_pairs : (v : LimitPairs) → pairs_of v ≡ [] → NoneGiven v
no_pairs v e =
    let first = none_given Rbps v.rbps (three v) e in
    let second = none_given Wbps v.wbps (two v) first.1 in
    let third = none_given Riops v.riops (given Wiops v.wiops) second.1 in
    (first.0, second.0, third.0, alone_none Wiops v.wiops third.1)

pairs_from : (ps : List (LimitKey × Limit)) → (ps ≡ [] → ⊥) → AreGood ps → (text : List ℕ) × (led ps ≡ 32 ∷ text) × AreLimitPairs ps text
pairs_from [] some h = absurd (some refl)
pairs_from (p ∷ ps) some h = (joined p ps, led_joined p ps, joined_are p ps h)

-- The printed limits are a space and a text of the limits.
pub limits_print : (v : LimitPairs) → AreLimitsWithin v → (text : List ℕ) × (led (pairs_of v) ≡ 32 ∷ text) × AreLimits v text
limits_print v h =
    let some : pairs_of v ≡ [] → ⊥ = λ e. h.some (no_pairs v e) in
    let made = pairs_from (pairs_of v) some (pairs_good v h) in
    (made.0, made.1, record { pairs = pairs_of v; spelled = made.2; distinct = pairs_distinct v; rbps = pairs_rbps v; wbps = pairs_wbps v; riops = pairs_riops v; wiops = pairs_wiops v })
