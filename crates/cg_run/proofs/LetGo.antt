-- What a reader of one file may let go of, and what its bytes are then.
use Rattle.std.proofs.Common.{◌≡◌, ◌↔◌, ◌⊎◌, ◌+◌, ◌≤◌, ◌<◌, ℕ, Bool, true, false, List, [], ◌∷◌, ◌++◌, length, take, drop, Option, Some, None, inl, inr, refl, sym, ◌∙◌, ap, ap₂, subst, arith, append_assoc, append-nil, length-append, length-take}
use Rattle.std.proofs.lemmas.List.{drop_all, drop_at, drop-append-le, take_all}
use Rattle.std.specs.List.{AllZip}
use Rattle.cg_text.specs.Texts.{Lacks, Viable, Next}
use Rattle.cg_text.specs.TextsLaws.{lacks_inside, only_at_end}
use Rattle.cg_value.specs.Files.{ReadLines, KindFile}
use Rattle.cg_value.specs.LineLaws.{plain_lines}
use Rattle.cg_value.specs.Lines.{unlines, AreLinesOf}
use Rattle.cg_text.specs.Decimal.{IsDecimal}
use Rattle.cg_value.specs.ReadLine.{IsLimitLine, IsParamLine, IsRaw, IsStatLine, IsTargetLine}
use Rattle.cg_value.specs.declared.kind.ReadForm.{ReadForm}
use Rattle.cg_value.specs.declared.kind.ReadForm.TheVariants as form
use Rattle.cg_value.specs.declared.value.Value.{Value}
use Rattle.cg_value.specs.declared.value.Value.TheVariants as value
use Rattle.cg_line.specs.HeldLaws.{lines_last}
use Rattle.cg_line.specs.Reads.{Reads, held_by}
use Rattle.cg_line.specs.Runs.{RunStops, StopsAt, IsPushedRun}
use Rattle.cg_line.specs.SplitLaws.{EndsBy, lines_first, unlines-append}
use Rattle.cg_line.specs.declared.push.PushFault.{PushFault}
use Rattle.cg_line.specs.declared.push.PushFault.TheVariants.{Refused, OutOfMemory}
use Rattle.cg_line.specs.declared.reader.PushedRun.{PushedRun}
use Rattle.cg_run.specs.FileReader.{IsLetGo, HasLinesAlone, HasKept, HasFewLines, IsDue, IsSettled, lines_alone, since, viable_behind}
use Rattle.cg_source.specs.TextReader.{IsRunTaken}
use Rattle.cg_run.specs.declared.file_reader.FileReader.{FileReader}

-- ---- Lines that stand alone

-- The values of some lines, and of those behind them.
both_lines : {X : Type 0} (P : X → List ℕ → Type 0) (xs ys : List X) (ks ls : List (List ℕ)) → AllZip P xs ks → AllZip P ys ls → AllZip P (xs ++ ys) (ks ++ ls)
both_lines P [] ys [] ls h k = k
both_lines P [] ys (line ∷ ks) ls h k = absurd h
both_lines P (x ∷ xs) ys [] ls h k = absurd h
both_lines P (x ∷ xs) ys (line ∷ ks) ls h k = (h.0, both_lines P xs ys ks ls h.1 k)

lines_behind : {X : Type 0} (P : X → List ℕ → Type 0) (xs : List X) (ks ls : List (List ℕ)) → AllZip P xs (ks ++ ls) → (ys : List X) × AllZip P ys ls
lines_behind P xs [] ls h = (xs, h)
lines_behind P [] (line ∷ ks) ls h = absurd h
lines_behind P (x ∷ xs) (line ∷ ks) ls h = lines_behind P xs ks ls h.1

-- Of a kind whose files are lines of one relation each, whole lines may be let go of.
many_alone : {X : Type 0} (P : X → List ℕ → Type 0) (make : List X → Value) (kind : ReadForm) →
    ((v : Value) (lines : List (List ℕ)) → ReadLines kind v lines ↔ AreLinesOf P make v lines) → HasLinesAlone kind
many_alone {X} P make kind is = record { let_go = λ text whole. record { same = λ rest. (before text rest whole, behind text rest whole) } }
  where
    before : (text rest : List ℕ) → KindFile kind text → KindFile kind rest → KindFile kind (text ++ rest)
    before text rest h k =
        let first = (is h.0 h.1.lines).0 h.1.spelled in
        let others = (is k.0 k.1.lines).0 k.1.spelled in
        let v = make (first.xs ++ others.xs) in
        let lines = h.1.lines ++ k.1.lines in
        let spelled : AreLinesOf P make v lines = record { xs = first.xs ++ others.xs; value = refl; spelled = both_lines P first.xs others.xs h.1.lines k.1.lines first.spelled others.spelled } in
        (v, record { lines = lines; spelled = (is v lines).1 spelled; text_is = ap₂ (λ (t u : List ℕ). t ++ u) h.1.text_is k.1.text_is ∙ sym (unlines-append h.1.lines k.1.lines) })

    behind : (text rest : List ℕ) → KindFile kind text → KindFile kind (text ++ rest) → KindFile kind rest
    behind text rest h k =
        let whole : unlines h.1.lines ++ rest ≡ unlines k.1.lines = ap (λ (t : List ℕ). t ++ rest) (sym h.1.text_is) ∙ k.1.text_is in
        let split = lines_first h.1.lines k.1.lines rest (plain_lines kind h.0 h.1.lines h.1.spelled) (plain_lines kind k.0 k.1.lines k.1.spelled) whole in
        let all = (is k.0 k.1.lines).0 k.1.spelled in
        let others = lines_behind P all.xs h.1.lines split.0 (subst (AllZip P all.xs) split.1 all.spelled) in
        let v = make others.0 in
        let spelled : AreLinesOf P make v split.0 = record { xs = others.0; value = refl; spelled = others.1 } in
        (v, record { lines = split.0; spelled = (is v split.0).1 spelled; text_is = split.2 })

pub numbers_alone : (lo hi : ℕ) → HasLinesAlone (form.Numbers lo hi)
numbers_alone lo hi = many_alone (IsDecimal lo hi) value.Numbers (form.Numbers lo hi) (λ v lines. (λ h. h, λ h. h))

pub stats_alone : (kernel : Bool) → HasLinesAlone (form.DeviceStats kernel)
stats_alone kernel = many_alone (IsStatLine kernel) value.DeviceStats (form.DeviceStats kernel) (λ v lines. (λ h. h, λ h. h))

pub limits_alone : (kernel : Bool) → HasLinesAlone (form.DeviceLimits kernel)
limits_alone kernel = many_alone (IsLimitLine kernel) value.DeviceLimits (form.DeviceLimits kernel) (λ v lines. (λ h. h, λ h. h))

pub targets_alone : (kernel : Bool) → HasLinesAlone (form.DeviceTargets kernel)
targets_alone kernel = many_alone (IsTargetLine kernel) value.DeviceTargets (form.DeviceTargets kernel) (λ v lines. (λ h. h, λ h. h))

pub params_alone : HasLinesAlone form.DeviceParams
params_alone = many_alone IsParamLine value.DeviceParams form.DeviceParams (λ v lines. (λ h. h, λ h. h))

pub raw_alone : HasLinesAlone form.Raw
raw_alone = many_alone IsRaw value.Raw form.Raw (λ v lines. (λ h. h, λ h. h))

-- Each of these kinds has lines alone.
pub kinds_alone : (kind : ReadForm) → lines_alone kind ≡ true → HasLinesAlone kind
kinds_alone (form.Numbers lo hi) alone = numbers_alone lo hi
kinds_alone (form.DeviceStats kernel) alone = stats_alone kernel
kinds_alone (form.DeviceLimits kernel) alone = limits_alone kernel
kinds_alone (form.DeviceTargets kernel) alone = targets_alone kernel
kinds_alone form.DeviceParams alone = params_alone
kinds_alone form.Raw alone = raw_alone
kinds_alone _ alone = absurd (cc)

-- No other kind is among them.
pub others_depend : (kind : ReadForm) → ((lo hi : ℕ) → kind ≡ form.Numbers lo hi → ⊥) → ((kernel : Bool) → kind ≡ form.DeviceStats kernel → ⊥) → ((kernel : Bool) → kind ≡ form.DeviceLimits kernel → ⊥) →
    ((kernel : Bool) → kind ≡ form.DeviceTargets kernel → ⊥) → (kind ≡ form.DeviceParams → ⊥) → (kind ≡ form.Raw → ⊥) → lines_alone kind ≡ false
others_depend (form.Numbers lo hi) numbers stats limits targets params raw = absurd (numbers lo hi refl)
others_depend (form.DeviceStats kernel) numbers stats limits targets params raw = absurd (stats kernel refl)
others_depend (form.DeviceLimits kernel) numbers stats limits targets params raw = absurd (limits kernel refl)
others_depend (form.DeviceTargets kernel) numbers stats limits targets params raw = absurd (targets kernel refl)
others_depend form.DeviceParams numbers stats limits targets params raw = absurd (params refl)
others_depend form.Raw numbers stats limits targets params raw = absurd (raw refl)
others_depend _ numbers stats limits targets params raw = refl

-- ---- What was let go of

pub nothing_let_go : (kind : ReadForm) → IsLetGo kind []
nothing_let_go kind = record { same = λ rest. (λ h. h, λ h. h) }

pub both_let_go : (kind : ReadForm) (front back : List ℕ) → IsLetGo kind front → IsLetGo kind back → IsLetGo kind (front ++ back)
both_let_go kind front back h k = record {
  same = λ rest.
      (let e = append_assoc front back rest in (
        λ whole. subst (KindFile kind) (sym e) ((h.same (back ++ rest)).0 ((k.same rest).0 whole)),
        λ whole. (k.same rest).1 ((h.same (back ++ rest)).1 (subst (KindFile kind) e whole)),
      ));
}

viable_alone : (kind : ReadForm) (front back : List ℕ) → IsLetGo kind front → Viable (KindFile kind) (front ++ back) → Viable (KindFile kind) back
viable_alone kind front back go h = record { rest = h.rest; whole = (go.same (back ++ h.rest)).1 (subst (KindFile kind) (append_assoc front back h.rest) h.whole) }

-- After all bytes comes what comes after those behind.
pub next_same : (kind : ReadForm) (front back taken : List ℕ) (byte : ℕ) → IsLetGo kind front → taken ≡ front ++ back → Next (KindFile kind) back byte ↔ Next (KindFile kind) taken byte
next_same kind front back taken byte go parts =
    let e : taken ++ byte ∷ [] ≡ front ++ (back ++ byte ∷ []) = ap (λ (t : List ℕ). t ++ byte ∷ []) parts ∙ append_assoc front back (byte ∷ []) in (
      λ next. subst (Viable (KindFile kind)) (sym e) (viable_behind kind front (back ++ byte ∷ []) go next),
      λ next. viable_alone kind front (back ++ byte ∷ []) go (subst (Viable (KindFile kind)) e next),
    )

-- Where those behind are a file, all are.
pub whole_same : (kind : ReadForm) (front back taken : List ℕ) → IsLetGo kind front → taken ≡ front ++ back → KindFile kind back ↔ KindFile kind taken
whole_same kind front back taken go parts = (λ h. subst (KindFile kind) (sym parts) ((go.same back).0 h), λ h. (go.same back).1 (subst (KindFile kind) parts h))

pub none_behind : (front back taken : List ℕ) → taken ≡ front ++ back → taken ≡ [] → back ≡ taken
none_behind [] back taken parts none = sym parts
none_behind (byte ∷ front) back taken parts none = cc

more_parts : (front back taken more : List ℕ) → taken ≡ front ++ back → taken ++ more ≡ front ++ (back ++ more)
more_parts front back taken more parts = ap (λ (t : List ℕ). t ++ more) parts ∙ append_assoc front back more

-- A run of bytes stops where it does after those behind.
pub stops_same : (kind : ReadForm) (front back taken bytes : List ℕ) (used : ℕ) (fault : Option PushFault) → IsLetGo kind front → taken ≡ front ++ back →
    RunStops kind back bytes used fault → RunStops kind taken bytes used fault
stops_same kind front back taken bytes used None go parts h = h
stops_same kind front back taken bytes used (Some Refused) go parts h =
    let e = more_parts front back taken (take used bytes) parts in
    (h.0, h.1, λ next. h.2 ((next_same kind front (back ++ take used bytes) (taken ++ take used bytes) _ go e).1 next))
stops_same kind front back taken bytes used (Some OutOfMemory) go parts h =
    let e = more_parts front back taken (take used bytes) parts in
    (h.0, h.1, (next_same kind front (back ++ take used bytes) (taken ++ take used bytes) _ go e).0 h.2)

-- ---- What is due

pub kept_since : (s : FileReader) (kind : ReadForm) (taken : List ℕ) → (h : HasKept s kind taken) → since s taken ≡ h.back
kept_since s kind taken h = ap (λ (t : List ℕ). drop s.before t) h.parts ∙ drop_at h.front h.back s.before h.count

kept_before : (s : FileReader) (kind : ReadForm) (taken : List ℕ) → HasKept s kind taken → s.before ≤ length taken
kept_before s kind taken h = omega (arith, h.count, ap length h.parts, length-append h.front h.back)

-- Of a reader that is due, all bytes may be let go of.
pub due_let_go : (s : FileReader) (kind : ReadForm) (taken : List ℕ) → HasKept s kind taken → IsDue s kind taken → IsLetGo kind taken
due_let_go s kind taken h due =
    let behind = subst (KindFile kind) (kept_since s kind taken h) due.whole in
    subst (IsLetGo kind) (sym h.parts) (both_let_go kind h.front h.back h.let_go ((kinds_alone kind due.alone).let_go h.back behind))

-- ---- How many whole lines there are

ends_after : (b : ℕ) (text : List ℕ) → EndsBy 10 (b ∷ text) → EndsBy 10 text
ends_after b text (inl e) = absurd (cc)
ends_after b text (inr ([], e)) = inl (cc)
ends_after b text (inr (c ∷ front, e)) = inr (front, cc)

file_ends : (kind : ReadForm) (text : List ℕ) → KindFile kind text → EndsBy 10 text
file_ends kind text h = subst (EndsBy 10) (sym h.1.text_is) (lines_last h.1.lines)

-- No newline is among the bytes, but at their end.
abbrev HasOneLine : List ℕ → Type 0
HasOneLine bytes = Lacks 10 bytes ⊎ ((line : List ℕ) × (bytes ≡ line ++ 10 ∷ []) × Lacks 10 line)

run_line : (L : List ℕ → Type 0) (taken bytes : List ℕ) (used : ℕ) (fault : Option PushFault) → StopsAt L taken bytes used fault → HasOneLine (take used bytes)
run_line L taken bytes used None (inl h) = inl (subst (Lacks 10) (sym (take_all used bytes (omega (arith, h.0)))) h.1)
run_line L taken bytes used None (inr h) = inr h
run_line L taken bytes used (Some Refused) h = inl h.1
run_line L taken bytes used (Some OutOfMemory) h = inl h.1

none_behind_line : (more front rest : List ℕ) → HasOneLine more → more ≡ front ++ 10 ∷ rest → rest ≡ []
none_behind_line more front rest (inl lacks) e = absurd (lacks_inside 10 front rest (subst (Lacks 10) e lacks))
none_behind_line more front rest (inr h) e = only_at_end 10 h.0 front rest h.2 (sym h.1 ∙ e)

-- Whole lines in front are all of the bytes, or came before the last of them.
lines_before : (back more lines rest : List ℕ) → EndsBy 10 lines → HasOneLine more → back ++ more ≡ lines ++ rest → (rest ≡ []) ⊎ ((between : List ℕ) × (back ≡ lines ++ between))
lines_before back more [] rest ends line e = inr (back, refl)
lines_before [] more (b ∷ lines) rest (inl none) line e = absurd (cc)
lines_before [] more (b ∷ lines) rest (inr h) line e = inl (none_behind_line more h.0 rest line (e ∙ ap (λ (t : List ℕ). t ++ rest) h.1 ∙ append_assoc h.0 (10 ∷ []) rest))
lines_before (c ∷ back) more (b ∷ lines) rest ends line e = elim (lines_before back more lines rest (ends_after b lines ends) line (cc)) [
  | inl none ↦ inl none
  | inr some ↦ let same : c ≡ b = cc in let behind = some.1 in inr (some.0, cc)
]

below : (n : ℕ) → (16384 ≤ n → ⊥) → n < 16384
below n small = omega arith

few_more : (kind : ReadForm) (back more : List ℕ) → HasOneLine more → (16384 ≤ length (back ++ more) → KindFile kind (back ++ more) → ⊥) → HasFewLines kind back → HasFewLines kind (back ++ more)
few_more kind back more line not_due few lines rest e file = elim (lines_before back more lines rest (file_ends kind lines file) line e) [
  | inl none ↦
      let same : lines ≡ back ++ more = sym (append-nil lines) ∙ ap (λ (t : List ℕ). lines ++ t) (sym none) ∙ sym e in
      below (length lines) (λ enough. not_due (subst (λ (t : List ℕ). 16384 ≤ length t) same enough) (subst (KindFile kind) same file))
  | inr some ↦ few lines some.0 some.1 file
]

few_of_none : (kind : ReadForm) (bytes : List ℕ) → bytes ≡ [] → HasFewLines kind bytes
few_of_none kind bytes none [] rest e file = omega arith
few_of_none kind bytes none (b ∷ lines) rest e file = absurd (cc)

-- Nothing was taken since.
pub settled_anew : (s : FileReader) (kind : ReadForm) (taken : List ℕ) → HasKept s kind taken → s.before ≡ length taken → IsSettled s kind taken
settled_anew s kind taken h all = record { kept = h; few = λ alone. few_of_none kind (since s taken) (drop_all s.before taken (omega (arith, all))) }

-- ---- A run of bytes

-- It was taken by the reader and kept.
pub record IsRunKept (old new : FileReader) (bytes : List ℕ) (run : PushedRun) : Type 0 where
  pub kind : new.kind ≡ old.kind
  pub before : new.before ≡ old.before
  pub text : new.text.items ≡ old.text.items ++ take run.used bytes
  pub pushed : (k : ReadForm) (t : List ℕ) → Reads old.reader k t → IsPushedRun new.reader k t bytes run
  pub held : held_by new.reader ≤ held_by old.reader + run.used
  pub within : run.used ≤ length bytes

pub run_kept : (old new : FileReader) (kind : ReadForm) (taken bytes : List ℕ) (run : PushedRun) → IsRunKept old new bytes run → HasKept old kind taken →
    IsRunTaken (KindFile kind) (HasKept new kind) taken bytes run
run_kept old new kind taken bytes run step h =
    let more = take run.used bytes in
    let after = step.pushed kind h.back h.reads in
    record {
      took = record {
        front = h.front;
        back = h.back ++ more;
        parts = more_parts h.front h.back taken more h.parts;
        count = h.count ∙ sym step.before;
        let_go = h.let_go;
        reads = after.reads;
        held = omega (arith, step.held, step.within, h.held, length-append h.back more, length-take run.used bytes);
        of_kind = step.kind ∙ h.of_kind;
        text = step.text ∙ ap (λ (t : List ℕ). t ++ more) h.text;
      };
      stops = stops_same kind h.front h.back taken bytes run.used run.fault h.let_go h.parts after.stops;
    }

-- It was, and the reader isn't due.
pub run_settled : (old new : FileReader) (kind : ReadForm) (taken bytes : List ℕ) (run : PushedRun) → IsRunKept old new bytes run →
    (HasKept new kind (taken ++ take run.used bytes) → IsDue new kind (taken ++ take run.used bytes) → ⊥) → IsSettled old kind taken →
    IsRunTaken (KindFile kind) (IsSettled new kind) taken bytes run
run_settled old new kind taken bytes run step not_due h =
    let more = take run.used bytes in
    let after = run_kept old new kind taken bytes run step h.kept in
    let grown : since new (taken ++ more) ≡ since old taken ++ more =
    ap (λ n. drop n (taken ++ more)) step.before ∙ drop-append-le old.before taken more (kept_before old kind taken h.kept) in
    let fewer : lines_alone kind ≡ true → 16384 ≤ length (since old taken ++ more) → KindFile kind (since old taken ++ more) → ⊥ =
    λ alone enough whole. not_due after.took (record { enough = subst (λ (t : List ℕ). 16384 ≤ length t) (sym grown) enough; alone = alone; whole = subst (KindFile kind) (sym grown) whole }) in
    record {
      took = record {
        kept = after.took;
        few = λ alone. subst (HasFewLines kind) (sym grown) (few_more kind (since old taken) more (run_line (KindFile kind) taken bytes run.used run.fault after.stops) (fewer alone) (h.few alone));
      };
      stops = after.stops;
    }

-- It was, and the reader was made anew after it.
pub run_renewed : (mid new : FileReader) (kind : ReadForm) (taken bytes : List ℕ) (run : PushedRun) →
    (HasKept mid kind (taken ++ take run.used bytes) → HasKept new kind (taken ++ take run.used bytes) × (new.before ≡ length (taken ++ take run.used bytes))) →
    IsRunTaken (KindFile kind) (HasKept mid kind) taken bytes run → IsRunTaken (KindFile kind) (IsSettled new kind) taken bytes run
run_renewed mid new kind taken bytes run renewed h =
    let anew = renewed h.took in
    record { took = settled_anew new kind (taken ++ take run.used bytes) anew.0 anew.1; stops = h.stops }

-- None of it was taken.
pub none_kept : (old new : FileReader) (kind : ReadForm) (taken bytes : List ℕ) (run : PushedRun) → new.kind ≡ old.kind → new.before ≡ old.before → new.reader ≡ old.reader →
    new.text.items ≡ old.text.items → run.used ≡ 0 → ((k : ReadForm) (t : List ℕ) → Reads old.reader k t → RunStops k t bytes 0 run.fault) → IsSettled old kind taken →
    IsRunTaken (KindFile kind) (IsSettled new kind) taken bytes run
none_kept old new kind taken bytes run same before reader text none stops settled =
    let h = settled.kept in
    let e : taken ++ take run.used bytes ≡ taken = ap (λ n. taken ++ take n bytes) none ∙ append-nil taken in
    let kept : HasKept new kind taken = record {
      front = h.front;
      back = h.back;
      parts = h.parts;
      count = h.count ∙ sym before;
      let_go = h.let_go;
      reads = subst (λ r. Reads r kind h.back) (sym reader) h.reads;
      held = subst (λ r. held_by r ≤ length h.back) (sym reader) h.held;
      of_kind = same ∙ h.of_kind;
      text = text ∙ h.text;
    } in
    let still : IsSettled new kind taken = record { kept = kept; few = λ alone. subst (λ n. HasFewLines kind (drop n taken)) (sym before) (settled.few alone) } in
    record {
      took = subst (IsSettled new kind) (sym e) still;
      stops = subst (λ n. RunStops kind taken bytes n run.fault) (sym none) (stops_same kind h.front h.back taken bytes 0 run.fault h.let_go h.parts (stops kind h.back h.reads));
    }
