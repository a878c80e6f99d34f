-- What holds of entries and items that are printed: they're read back, and nothing else is.
use Rattle.std.proofs.Common.{◌≡◌, ◌≢◌, ℕ, zero, suc, ◌+◌, ◌-◌, ◌<◌, List, [], ◌∷◌, ◌++◌, length, get_or, take, drop, refl, sym, ap, subst, ◌∙◌, arith, append_assoc, add-one}
use Rattle.std.proofs.lemmas.List.{append-nil, take-append-drop, take_more}
use Rattle.cg_text.specs.Texts.{Viable}
use Rattle.cg_value.specs.Entry.{EntryData, ItemData}
use Rattle.cg_value.specs.EntryLaws.{entry_has_line, entry_path, item_path}
use Rattle.cg_value.specs.Print.{print_lines, print_setting_of}
use Rattle.cg_value.specs.PrintLaws.{lines_fit}
use Rattle.cg_value.specs.Records.{records}
use Rattle.cg_value.specs.TableLaws.{read_form_ok}
use Rattle.cg_value.specs.declared.profile.Profile.{Profile}
use Rattle.cg_snap.specs.Decode.{IsDecoded, IsSnapFault}
use Rattle.cg_snap.specs.declared.decode.StreamFault.TheVariants.{Stopped}
use Rattle.cg_snap.specs.Encode.{IsEncoded, IsSamePath}
use Rattle.cg_snap.specs.Laws.{AreApart, AreEntriesOf, AreItemsOf, print_entries, print_items}
use Rattle.cg_snap.specs.Plan.{PlanText}
use Rattle.cg_snap.specs.PlanLaws.{items_printed, one_plan}
use Rattle.cg_snap.specs.RoundTrip.{IsDecodedTo, IsEncodedTo, IsLimitStop}
use Rattle.cg_snap.specs.Snap.{Snap, SnapText, StartsOther}
use Rattle.cg_snap.specs.SnapLaws.{one_list, snap_is_print}
use Rattle.cg_snap.specs.declared.limits.Limits.{Limits}
use Rattle.cg_snap.specs.declared.stop.Stop.{Stop}
use Rattle.cg_snap.specs.declared.stop.Stop.TheVariants as stops

-- ---- One more

entries_push : (es : List EntryData) (e : EntryData) → print_entries (es ++ e ∷ []) ≡ print_entries es ++ records e.path (print_lines e.value)
entries_push [] e = append-nil (records e.path (print_lines e.value))
entries_push (f ∷ es) e =
    let first = records f.path (print_lines f.value) in
    ap (λ (t : List ℕ). first ++ t) (entries_push es e) ∙ sym (append_assoc first (print_entries es) (records e.path (print_lines e.value)))

items_push : (items : List ItemData) (x : ItemData) → print_items (items ++ x ∷ []) ≡ print_items items ++ (x.path ++ 0 ∷ print_setting_of x.setting)
items_push [] x = ap (λ (t : List ℕ). x.path ++ 0 ∷ t) (append-nil (print_setting_of x.setting))
items_push (y ∷ items) x =
    let last = x.path ++ 0 ∷ print_setting_of x.setting in
    let line = print_setting_of y.setting in
    let others : line ++ print_items (items ++ x ∷ []) ≡ (line ++ print_items items) ++ last = ap (λ (t : List ℕ). line ++ t) (items_push items x) ∙ sym (append_assoc line (print_items items) last) in
    ap (λ (t : List ℕ). y.path ++ 0 ∷ t) others ∙ sym (append_assoc y.path (0 ∷ (line ++ print_items items)) last)

pub entries_more : (es : List EntryData) (i : ℕ) (e : EntryData) (text : List ℕ) → i < length es → e ≡ get_or es i e → text ≡ print_entries (take i es) →
    text ++ records e.path (print_lines e.value) ≡ print_entries (take (i + 1) es)
entries_more es i e text lt is before =
    let here : take i es ++ e ∷ [] ≡ take (i + 1) es = ap (λ (f : EntryData). take i es ++ f ∷ []) is ∙ sym (take_more es i e lt) in
    ap (λ (t : List ℕ). t ++ records e.path (print_lines e.value)) before ∙ sym (entries_push (take i es) e) ∙ ap print_entries here

pub items_more : (items : List ItemData) (i : ℕ) (x : ItemData) (text : List ℕ) → i < length items → x ≡ get_or items i x → text ≡ print_items (take i items) →
    text ++ (x.path ++ 0 ∷ print_setting_of x.setting) ≡ print_items (take (i + 1) items)
items_more items i x text lt is before =
    let here : take i items ++ x ∷ [] ≡ take (i + 1) items = ap (λ (y : ItemData). take i items ++ y ∷ []) is ∙ sym (take_more items i x lt) in
    ap (λ (t : List ℕ). t ++ (x.path ++ 0 ∷ print_setting_of x.setting)) before ∙ sym (items_push (take i items) x) ∙ ap print_items here

-- ---- Adjacent entries

next : (e : EntryData) (es : List EntryData) (k : ℕ) (d : EntryData) → get_or (e ∷ es) (k + 1) d ≡ get_or es k d
next e es k d = rw (add-one k) refl

starts_other : (e : EntryData) (es : List EntryData) → AreApart (e ∷ es) (length (e ∷ es)) → StartsOther e.path es
starts_other e [] apart = tt
starts_other e (f ∷ es) apart = apart 0 e (omega arith)

apart_others : (e : EntryData) (es : List EntryData) → AreApart (e ∷ es) (length (e ∷ es)) → AreApart es (length es)
apart_others e es apart = λ k d h same. apart (k + 1) d (omega (arith, h)) (ap (λ (f : EntryData). f.path) (next e es (k + 1) d) ∙ same ∙ sym (ap (λ (f : EntryData). f.path) (next e es k d)))

apart_with : (e : EntryData) (es : List EntryData) → StartsOther e.path es → AreApart es (length es) → AreApart (e ∷ es) (length (e ∷ es))
apart_with e es other apart = pairs e es other apart
  where
    pairs : (e : EntryData) (es : List EntryData) → StartsOther e.path es → AreApart es (length es) → (k : ℕ) (d : EntryData) → k + 1 < length (e ∷ es) → (get_or (e ∷ es) (k + 1) d).path ≢ (get_or (e ∷ es) k d).path
    pairs e [] other apart k d h = absurd (omega (arith, h))
    pairs e (f ∷ es) other apart zero d h = other
    pairs e (f ∷ es) other apart (suc k) d h = λ same. apart k d (omega (arith, h)) (ap (λ n. (get_or (f ∷ es) n d).path) (add-one k) ∙ sym (ap (λ (g : EntryData). g.path) (next e (f ∷ es) (suc k) d)) ∙ same)

-- An entry with the path of the one before it is among entries that aren't apart.
not_apart : (es : List EntryData) (at : ℕ) → IsSamePath es at → AreApart es (length es) → ⊥
not_apart [] at same apart = absurd (omega (arith, same.within))
not_apart (e ∷ es) at same apart =
    let here : at - 1 + 1 ≡ at = omega (arith, same.not_first) in
    apart (at - 1) e (omega (arith, same.within, same.not_first)) (ap (λ k. (get_or (e ∷ es) k e).path) here ∙ same.same e)

-- ---- Snapshots

pub entries_printed : (profile : Profile) (es : List EntryData) → AreEntriesOf profile es → AreApart es (length es) → SnapText profile es (print_entries es)
entries_printed profile [] all apart = refl
entries_printed profile (e ∷ es) all apart =
    let fit = all.0 in (
      print_lines e.value,
      print_entries es,
      record { kind = fit.kind; reads = fit.reads; some = fit.some_line; spelled = lines_fit fit.kind e.value (read_form_ok profile fit.reads.name fit.kind fit.reads.form_is) fit.fits },
      starts_other e es apart,
      refl,
      entries_printed profile es all.1 (apart_others e es apart),
    )

entries_of : (profile : Profile) (es : List EntryData) (text : List ℕ) → SnapText profile es text → AreEntriesOf profile es
entries_of profile [] text h = tt
entries_of profile (e ∷ es) text h = (
  record { good = entry_path e; kind = h.2.kind; reads = h.2.reads; fits = record { lines = h.0; spelled = h.2.spelled }; some_line = entry_has_line e },
  entries_of profile es h.1 h.5,
)

snap_apart : (profile : Profile) (es : List EntryData) (text : List ℕ) → SnapText profile es text → AreApart es (length es)
snap_apart profile [] text h = λ k d below. absurd (omega (arith, below))
snap_apart profile (e ∷ es) text h = apart_with e es h.3 (snap_apart profile es h.1 h.5)

pub snap_of_entries : (profile : Profile) (es : List EntryData) (text : List ℕ) → SnapText profile es text → AreEntriesOf profile es × AreApart es (length es)
snap_of_entries profile es text h = (entries_of profile es text h, snap_apart profile es text h)

-- ---- Plans

pub plan_of_items : (profile : Profile) (items : List ItemData) (text : List ℕ) → PlanText profile items text → AreItemsOf profile items
plan_of_items profile [] text h = tt
plan_of_items profile (x ∷ items) text h =
    (record { good = item_path x; kind = h.2.kind; writes = h.2.writes; fits = record { line = h.0; spelled = h.2.spelled } }, plan_of_items profile items h.1 h.4)

pub items_given_back : (profile : Profile) (xs ys : List ItemData) → AreItemsOf profile xs → PlanText profile ys (print_items xs) → ys ≡ xs
items_given_back profile xs ys all h = one_plan profile ys xs (print_items xs) h (items_printed profile xs all)

pub plan_encoded_twice : (profile : Profile) (xs ys : List ItemData) (text : List ℕ) → PlanText profile xs text → PlanText profile ys (print_items xs) → print_items ys ≡ print_items xs
plan_encoded_twice profile xs ys text h again = ap print_items (items_given_back profile xs ys (plan_of_items profile xs text h) again)

-- ---- Snapshots there and back

-- The text of entries that are encoded is their snapshot.
encoded_snap : (profile : Profile) (es : List EntryData) (text : List ℕ) → AreEntriesOf profile es → IsEncoded es text → SnapText profile es text
encoded_snap profile es text all encoded = subst (SnapText profile es) (sym encoded.printed) (entries_printed profile es all encoded.apart)

-- A snapshot begins with what comes of it.
viable_part : (profile : Profile) (es : List EntryData) (text : List ℕ) (n : ℕ) → SnapText profile es text → Viable (Snap profile) (take n text)
viable_part profile es text n h = record { rest = drop n text; whole = (es, subst (SnapText profile es) (sym (take-append-drop n text)) h) }

only_limits : (profile : Profile) (limits : Limits) (es : List EntryData) (text : List ℕ) → SnapText profile es text → (stop : Stop) → IsSnapFault profile limits text (Stopped stop) → IsLimitStop stop
only_limits profile limits es text h (stops.Refused at why) s = s.stops.1 (viable_part profile es text (s.place + 1) h)
only_limits profile limits es text h (stops.TooLong at) s = tt
only_limits profile limits es text h (stops.TooMany at) s = tt
only_limits profile limits es text h (stops.TooMuch at) s = tt
only_limits profile limits es text h (stops.Cut at) s = s.not_whole (es, h)

pub entries_given_back : (profile : Profile) (limits : Limits) (es : List EntryData) (text : List ℕ) → AreEntriesOf profile es → IsEncoded es text → IsDecodedTo profile limits text es
entries_given_back profile limits es text all encoded =
    let h = encoded_snap profile es text all encoded in
    record { entries = λ fs decoded. one_list profile fs es text decoded.whole h; stops = only_limits profile limits es text h }

pub snap_given_back : (profile : Profile) (limits : Limits) (es : List EntryData) (text : List ℕ) → IsDecoded profile limits text es → IsEncodedTo es text
snap_given_back profile limits es text decoded = record {
  text_is = λ other encoded. encoded.printed ∙ sym (snap_is_print profile es text decoded.whole);
  apart = λ at same. not_apart es at same (snap_apart profile es text decoded.whole);
}
