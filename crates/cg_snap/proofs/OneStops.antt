-- A stream has one stop.
use Rattle.std.proofs.Common.{◌≡◌, ℕ, ◌+◌, ◌<◌, List, ◌∷◌, ◌++◌, take, refl, sym, subst, ◌∙◌, arith, inl, inr}
use Rattle.std.proofs.lemmas.Bool.{cases_lt}
use Rattle.std.proofs.lemmas.List.{length-take, take-take}
use Rattle.cg_text.specs.ListFacts.{push_one}
use Rattle.cg_text.specs.Texts.{Lacks}
use Rattle.cg_text.specs.TextsLaws.{lacks_inside}
use Rattle.cg_value.specs.declared.profile.Profile.{Profile}
use Rattle.cg_line.specs.MadeLaws.{reads_once}
use Rattle.cg_snap.specs.Begun.{IsBegun, IsLongRecord}
use Rattle.cg_snap.specs.ClosedLaws.{begun_once}
use Rattle.cg_snap.specs.Plan.{Plan}
use Rattle.cg_snap.specs.PlanStop.{IsItemWhy, PlanStopOf, is_never_many}
use Rattle.cg_snap.specs.Snap.{Snap}
use Rattle.cg_snap.specs.SnapStop.{IsManyRecords, IsRecordWhy, SnapStopOf}
use Rattle.cg_snap.specs.Stop.{IsPassed, StopsAt}
use Rattle.cg_snap.specs.StreamStop.{IsLastWhy, StreamStopOf}
use Rattle.cg_snap.specs.declared.limits.Limits.{Limits}
use Rattle.cg_snap.specs.declared.stop.Stop.{Stop}
use Rattle.cg_snap.specs.declared.stop.Stop.TheVariants as stops
use Rattle.cg_snap.specs.declared.stop.Why.{Why}
use Rattle.cg_snap.specs.declared.stop.Why.TheVariants.{PathByte, NoName, NotReadable, NotWritable, NoMoreLines, Line}

module _ (L : List ℕ → Type 0) (Breaks : List ℕ → ℕ → Why → Type 0) (Many : ℕ → List ℕ → ℕ → Type 0) (limits : Limits)
    (breaks_once : (begun : List ℕ) (byte : ℕ) (v w : Why) → Breaks begun byte v → Breaks begun byte w → v ≡ w) where
  abbrev Stops : List ℕ → ℕ → Stop → Type 0
  Stops text k stop = StopsAt L (IsLastWhy Breaks) (IsLongRecord limits.max_record) (Many limits.max_lines) limits.max_stream text k stop

  abbrev Passed : List ℕ → ℕ → Type 0
  Passed text k = IsPassed L (IsLastWhy Breaks) (IsLongRecord limits.max_record) (Many limits.max_lines) limits.max_stream text k

  -- The last byte breaks one rule.
  why_once : (text : List ℕ) (k : ℕ) (v w : Why) → IsLastWhy Breaks text k v → IsLastWhy Breaks text k w → v ≡ w
  why_once text k v w h g =
      let same = push_one h.2.front g.2.front h.1 g.1 (sym h.2.whole ∙ g.2.whole) in
      let begun : h.0 ≡ g.0 = begun_once h.2.front h.0 g.0 h.2.begins (subst (λ (t : List ℕ). IsBegun t g.0) (sym same.0) g.2.begins) in
      breaks_once g.0 g.1 v w (subst (λ (b : ℕ). Breaks g.0 b v) same.1 (subst (λ (t : List ℕ). Breaks t h.1 v) begun h.3)) g.3

  -- A byte stops the stream in one way.
  one_at : (text : List ℕ) (k : ℕ) (a b : Stop) → Stops text k a → Stops text k b → a ≡ b
  one_at text k (stops.Refused x v) (stops.Refused y w) h g = let place : x ≡ y = h.0 ∙ sym g.0 in let why : v ≡ w = why_once (take (k + 1) text) k v w h.2 g.2 in rw (place, why) refl
  one_at text k (stops.Refused x v) (stops.TooLong y) h g = absurd (h.1 g.1)
  one_at text k (stops.Refused x v) (stops.TooMany y) h g = absurd (h.1 g.1)
  one_at text k (stops.Refused x v) (stops.TooMuch y) h g = absurd (h.1 g.1)
  one_at text k (stops.Refused x v) (stops.Cut y) h g = absurd g
  one_at text k (stops.TooLong x) (stops.Refused y w) h g = absurd (g.1 h.1)
  one_at text k (stops.TooLong x) (stops.TooLong y) h g = let place : x ≡ y = h.0 ∙ sym g.0 in rw place refl
  one_at text k (stops.TooLong x) (stops.TooMany y) h g = absurd (g.2 h.2)
  one_at text k (stops.TooLong x) (stops.TooMuch y) h g = absurd (g.2 h.2)
  one_at text k (stops.TooLong x) (stops.Cut y) h g = absurd g
  one_at text k (stops.TooMany x) (stops.Refused y w) h g = absurd (g.1 h.1)
  one_at text k (stops.TooMany x) (stops.TooLong y) h g = absurd (h.2 g.2)
  one_at text k (stops.TooMany x) (stops.TooMany y) h g = let place : x ≡ y = h.0 ∙ sym g.0 in rw place refl
  one_at text k (stops.TooMany x) (stops.TooMuch y) h g = absurd (g.3 h.3)
  one_at text k (stops.TooMany x) (stops.Cut y) h g = absurd g
  one_at text k (stops.TooMuch x) (stops.Refused y w) h g = absurd (g.1 h.1)
  one_at text k (stops.TooMuch x) (stops.TooLong y) h g = absurd (h.2 g.2)
  one_at text k (stops.TooMuch x) (stops.TooMany y) h g = absurd (h.3 g.3)
  one_at text k (stops.TooMuch x) (stops.TooMuch y) h g = let place : x ≡ y = h.0 ∙ sym g.0 in rw place refl
  one_at text k (stops.TooMuch x) (stops.Cut y) h g = absurd g
  one_at text k (stops.Cut x) b h g = absurd h

  -- A byte that doesn't stop the stream.
  stops_none : (text : List ℕ) (k : ℕ) (stop : Stop) → Passed text k → Stops text k stop → ⊥
  stops_none text k (stops.Refused at why) p h = h.1 p.viable
  stops_none text k (stops.TooLong at) p h = p.short h.2
  stops_none text k (stops.TooMany at) p h = p.few h.3
  stops_none text k (stops.TooMuch at) p h = p.before h.4
  stops_none text k (stops.Cut at) p h = h

  earlier : (text : List ℕ) (a b : Stop) (h : StreamStopOf L Breaks Many limits text a) (g : StreamStopOf L Breaks Many limits text b) → h.place < g.place → ⊥
  earlier text a b h g lt =
      let same : take (h.place + 1) (take g.place text) ≡ take (h.place + 1) text = take-take (h.place + 1) g.place text (omega (arith, lt)) in
      let p = g.unstopped h.place (omega (arith, lt, h.within, length-take g.place text)) in
      let viable = p.viable in
      let short = p.short in
      let few = p.few in
      stops_none text h.place a (record { viable = rw same at viable; short = rw same at short; few = rw same at few; before = p.before }) h.stops

  pub one_stream_stop : (text : List ℕ) (a b : Stop) → StreamStopOf L Breaks Many limits text a → StreamStopOf L Breaks Many limits text b → a ≡ b
  one_stream_stop text a b h g = elim (cases_lt h.place g.place) [
    | inl lt ↦ absurd (earlier text a b h g lt)
    | inr ge ↦ elim (cases_lt g.place h.place) [
      | inl gt ↦ absurd (earlier text b a g h gt)
      | inr le ↦
          let same : h.place ≡ g.place = omega (arith, ge, le) in
          one_at text g.place a b (subst (λ (k : ℕ). Stops text k a) same h.stops) g.stops
    ]
  ]

line_not : (begun : List ℕ) → Lacks 0 begun → (path : List ℕ) × (line : List ℕ) × (begun ≡ path ++ 0 ∷ line) → ⊥
line_not begun n h = lacks_inside 0 h.0 h.1 (subst (Lacks 0) h.2 n)

-- A byte of a snapshot breaks one rule.
record_why_once : (profile : Profile) (begun : List ℕ) (byte : ℕ) (v w : Why) → IsRecordWhy profile begun byte v → IsRecordWhy profile begun byte w → v ≡ w
record_why_once profile begun byte PathByte PathByte h g = refl
record_why_once profile begun byte PathByte NoName h g = absurd (omega (arith, h.1, g.1))
record_why_once profile begun byte PathByte NotReadable h g = absurd (omega (arith, h.1, g.1))
record_why_once profile begun byte PathByte NotWritable h g = absurd g
record_why_once profile begun byte PathByte NoMoreLines h g = absurd (omega (arith, h.1, g.1))
record_why_once profile begun byte PathByte Line h g = absurd (line_not begun h.0 g)
record_why_once profile begun byte NoName PathByte h g = absurd (omega (arith, h.1, g.1))
record_why_once profile begun byte NoName NoName h g = refl
record_why_once profile begun byte NoName NotReadable h g = absurd (g.2 h.2)
record_why_once profile begun byte NoName NotWritable h g = absurd g
record_why_once profile begun byte NoName NoMoreLines h g = absurd (g.2 h.2)
record_why_once profile begun byte NoName Line h g = absurd (line_not begun h.0 g)
record_why_once profile begun byte NotReadable PathByte h g = absurd (omega (arith, h.1, g.1))
record_why_once profile begun byte NotReadable NoName h g = absurd (h.2 g.2)
record_why_once profile begun byte NotReadable NotReadable h g = refl
record_why_once profile begun byte NotReadable NotWritable h g = absurd g
record_why_once profile begun byte NotReadable NoMoreLines h g = absurd (reads_once profile begun g.3.0 h.3 g.3.1)
record_why_once profile begun byte NotReadable Line h g = absurd (line_not begun h.0 g)
record_why_once profile begun byte NotWritable w h g = absurd h
record_why_once profile begun byte NoMoreLines PathByte h g = absurd (omega (arith, h.1, g.1))
record_why_once profile begun byte NoMoreLines NoName h g = absurd (h.2 g.2)
record_why_once profile begun byte NoMoreLines NotReadable h g = absurd (reads_once profile begun h.3.0 g.3 h.3.1)
record_why_once profile begun byte NoMoreLines NotWritable h g = absurd g
record_why_once profile begun byte NoMoreLines NoMoreLines h g = refl
record_why_once profile begun byte NoMoreLines Line h g = absurd (line_not begun h.0 g)
record_why_once profile begun byte Line PathByte h g = absurd (line_not begun g.0 h)
record_why_once profile begun byte Line NoName h g = absurd (line_not begun g.0 h)
record_why_once profile begun byte Line NotReadable h g = absurd (line_not begun g.0 h)
record_why_once profile begun byte Line NotWritable h g = absurd g
record_why_once profile begun byte Line NoMoreLines h g = absurd (line_not begun g.0 h)
record_why_once profile begun byte Line Line h g = refl

-- And so does a byte of a plan.
item_why_once : (profile : Profile) (begun : List ℕ) (byte : ℕ) (v w : Why) → IsItemWhy profile begun byte v → IsItemWhy profile begun byte w → v ≡ w
item_why_once profile begun byte PathByte PathByte h g = refl
item_why_once profile begun byte PathByte NoName h g = absurd (omega (arith, h.1, g.1))
item_why_once profile begun byte PathByte NotReadable h g = absurd g
item_why_once profile begun byte PathByte NotWritable h g = absurd (omega (arith, h.1, g.1))
item_why_once profile begun byte PathByte NoMoreLines h g = absurd g
item_why_once profile begun byte PathByte Line h g = absurd (line_not begun h.0 g)
item_why_once profile begun byte NoName PathByte h g = absurd (omega (arith, h.1, g.1))
item_why_once profile begun byte NoName NoName h g = refl
item_why_once profile begun byte NoName NotReadable h g = absurd g
item_why_once profile begun byte NoName NotWritable h g = absurd (g.2 h.2)
item_why_once profile begun byte NoName NoMoreLines h g = absurd g
item_why_once profile begun byte NoName Line h g = absurd (line_not begun h.0 g)
item_why_once profile begun byte NotReadable w h g = absurd h
item_why_once profile begun byte NotWritable PathByte h g = absurd (omega (arith, h.1, g.1))
item_why_once profile begun byte NotWritable NoName h g = absurd (h.2 g.2)
item_why_once profile begun byte NotWritable NotReadable h g = absurd g
item_why_once profile begun byte NotWritable NotWritable h g = refl
item_why_once profile begun byte NotWritable NoMoreLines h g = absurd g
item_why_once profile begun byte NotWritable Line h g = absurd (line_not begun h.0 g)
item_why_once profile begun byte NoMoreLines w h g = absurd h
item_why_once profile begun byte Line PathByte h g = absurd (line_not begun g.0 h)
item_why_once profile begun byte Line NoName h g = absurd (line_not begun g.0 h)
item_why_once profile begun byte Line NotReadable h g = absurd g
item_why_once profile begun byte Line NotWritable h g = absurd (line_not begun g.0 h)
item_why_once profile begun byte Line NoMoreLines h g = absurd g
item_why_once profile begun byte Line Line h g = refl

pub one_stop : (profile : Profile) (limits : Limits) (text : List ℕ) (a b : Stop) → SnapStopOf profile limits text a → SnapStopOf profile limits text b → a ≡ b
one_stop profile limits text a b h g = one_stream_stop (Snap profile) (IsRecordWhy profile) (IsManyRecords profile) limits (record_why_once profile) text a b h g

pub one_plan_stop : (profile : Profile) (limits : Limits) (text : List ℕ) (a b : Stop) → PlanStopOf profile limits text a → PlanStopOf profile limits text b → a ≡ b
one_plan_stop profile limits text a b h g = one_stream_stop (Plan profile) (IsItemWhy profile) is_never_many limits (item_why_once profile) text a b h g
