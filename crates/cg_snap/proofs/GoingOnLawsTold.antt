-- Where nothing is left out, and whose lines an entry has that is told.
use Rattle.std.proofs.Common.{◌≡◌, ◌≢◌, ℕ, ◌<◌, ◌≤◌, ◌⊎◌, inl, inr, List, [], ◌∷◌, ◌++◌, length, Option, Some, None, refl, sym, ap, subst, ◌∙◌, append_assoc, arith}
use Rattle.std.proofs.lemmas.Bool.{cases_eq}
use Rattle.std.proofs.lemmas.List.{append-nil, length-append, length_push, map-append}
use Rattle.std.specs.List.{AllByRecursion}
use Rattle.cg_text.specs.Texts.{Lacks, Next, Viable}
use Rattle.cg_text.specs.TextsLaws.{lacks_both, lacks_inside}
use Rattle.cg_text.specs.Token.{AreBytes}
use Rattle.cg_value.specs.Entry.{EntryData, IsPath, ReadsAt}
use Rattle.cg_value.specs.EntryLaws.{entry_path}
use Rattle.cg_value.specs.Files.{KindFile, ReadLines}
use Rattle.cg_value.specs.Lines.{unlines}
use Rattle.cg_value.specs.PathLaws.{path_lacks_newline, path_lacks_nul}
use Rattle.cg_value.specs.Records.{records}
use Rattle.cg_value.specs.declared.kind.ReadForm.{ReadForm}
use Rattle.cg_value.specs.declared.profile.Profile.{Profile}
use Rattle.cg_value.specs.declared.value.Value.{Value}
use Rattle.cg_file.specs.WeightFileLaws.{not_empty}
use Rattle.cg_snap.specs.Begun.{IsBegun, IsRecordEnd}
use Rattle.cg_snap.specs.Closed.{Closed, EndsOther}
use Rattle.cg_snap.specs.Course.{AreFew}
use Rattle.cg_snap.specs.Decode.{IsDecoded}
use Rattle.cg_snap.specs.GoingOn.{AreOfOnePath, AreTold, AreToldBy, AreAllTold, Block, HasPath, IsBehind, IsBlockOf, IsOpen, IsWithin, IsWithoutPath, Tells, Told, block_limits, more, none}
use Rattle.cg_snap.specs.GoingOnLaws.{AreToldOf, IsOwn, IsOwnFault, only}
use Rattle.cg_snap.specs.PathBytes.{ArePathBytes}
use Rattle.cg_snap.specs.Snap.{AreEntryLines, Snap, SnapText, StartsOther}
use Rattle.cg_snap.specs.SnapLaws.{cut, entry_starts, first_path, lines_plain}
use Rattle.cg_snap.specs.SnapStop.{IsManyRecords, IsRecordWhy, IsSnapUnstopped}
use Rattle.cg_snap.specs.declared.going_on.LeftOut.{LeftOut}
use Rattle.cg_snap.specs.declared.limits.Limits.{Limits}
use Rattle.cg_snap.proofs.Closes.{begun_after, records_end, snap_end, start_closed}
use Rattle.cg_snap.proofs.GoingOnLawsBlocks.{EndsBlock, HasLast, append_empty, begun_end, begun_plain, block_begins, end_behind, ends_both, entry_not_out, lacks_front, last_in, push_both, push_some}
use Rattle.cg_snap.proofs.GoingOnLawsCarry.{IsPlace, free_short, none_unstopped, place_in, unstopped_alone, unstopped_at, unstopped_behind, unstopped_front, unstopped_viable, viable_alone}
use Rattle.cg_snap.proofs.GoingOnLawsCloses.{EndsOfPath}
use Rattle.cg_snap.proofs.Joins.{Joins, ends_push, inner, push_at, snap_append, snap_push, unlines-append}
use Rattle.cg_snap.proofs.Places.{not_many}
use Rattle.cg_snap.proofs.Refusals.{Head, go_on, inner_head, snap_head}
use Rattle.cg_snap.proofs.Steps.{before, has_entry, lines_can_end, one_record, other_path}
use Rattle.cg_snap.proofs.Stops.{unstopped_run}

-- ---- The path of the last entry

abbrev pub last_path : List EntryData → Option (List ℕ)
last_path [] = None
last_path (e ∷ []) = Some e.path
last_path (e ∷ f ∷ es) = last_path (f ∷ es)

pub last_push : (es : List EntryData) (e : EntryData) → last_path (es ++ e ∷ []) ≡ Some e.path
last_push [] e = refl
last_push (f ∷ []) e = refl
last_push (f ∷ g ∷ es) e = last_push (g ∷ es) e

pub ends_path : (es : List EntryData) (q : List ℕ) → EndsOther es q → last_path es ≡ Some q → ⊥
ends_path [] q o e = absurd (cc)
ends_path (f ∷ []) q o e = let s : f.path ≡ q = cc in o s
ends_path (f ∷ g ∷ es) q o e = ends_path (g ∷ es) q o e

pub path_ends : (es : List EntryData) (q : List ℕ) → (last_path es ≡ Some q → ⊥) → EndsOther es q
path_ends [] q n = tt
path_ends (f ∷ []) q n = λ s. n (ap (λ (t : List ℕ). Some t) s)
path_ends (f ∷ g ∷ es) q n = path_ends (g ∷ es) q n

pub only_push : (es : List EntryData) (e : EntryData) → only (es ++ e ∷ []) ≡ only es ++ inl e ∷ []
only_push es e = map-append (λ (e : EntryData). inl e) es (e ∷ [])

-- ---- Whole entries

module _ (profile : Profile) (limits : Limits) where
  abbrev pub Unstopped : List ℕ → Type 0
  Unstopped bytes = IsSnapUnstopped profile (block_limits limits) bytes

  pub one_places : (q w : List ℕ) → AreOfOnePath q w → (p : List ℕ) (b : ℕ) (x : List ℕ) → w ≡ p ++ b ∷ x → IsPlace q p b
  one_places q w a p b x e = place_in q a.lines a.begun p b x a.plain (begun_end q a.begun a.lines a.last) (sym a.split ∙ e)

  -- A path whose NUL stops nothing has room for it.
  pub path_room : (es : List EntryData) (given q y : List ℕ) → SnapText profile es given → IsPath q → Unstopped (given ++ (q ++ 0 ∷ y)) →
      length q < limits.max_record
  path_room es given q y h g u =
      let f = unstopped_at profile (block_limits limits) (given ++ (q ++ 0 ∷ y)) (given ++ q) 0 y (sym (append_assoc given q (0 ∷ y))) u in
      free_short profile (block_limits limits) (given ++ q) q 0 (begun_after profile es given q [] (given ++ q) q h refl (path_lacks_newline q g)) f.1

  pub lines_of_one : (q : List ℕ) (lines : List (List ℕ)) → lines ≢ [] → AllByRecursion (Lacks 10) lines → AreOfOnePath q (records q lines)
  lines_of_one q lines some plain = record { lines = lines; begun = []; split = sym (append-nil (records q lines)); plain = plain; last = inl (refl, some) }

  -- The records of an entry behind others, of which the last has another path, are a block, and it is read from them alone.
  pub entry_block : (es : List EntryData) (given : List ℕ) (e : EntryData) (lines : List (List ℕ)) → SnapText profile es given → EndsOther es e.path →
      AreEntryLines profile e lines →
      Unstopped (given ++ records e.path lines) →
      IsBlockOf limits.max_record (Some e.path) (records e.path lines) × IsDecoded profile (block_limits limits) (records e.path lines) (e ∷ [])
  entry_block es given e lines h o a u =
      let one = lines_of_one e.path lines a.some (lines_plain profile e lines a) in
      let s = block_begins e.path (records e.path lines) one in (
        (entry_path e, path_room es given e.path s.0 h (entry_path e) (subst (λ (t : List ℕ). Unstopped (given ++ t)) s.1 u), one),
        record {
          whole = push_at profile [] [] e.path e lines refl refl a tt;
          unstopped = unstopped_alone profile es given e.path h o (entry_path e) (block_limits limits) (records e.path lines) s.0 s.1 (one_places e.path (records e.path lines) one) u;
        },
      )

  joins_next : (es gs : List EntryData) (e : EntryData) → StartsOther e.path gs → Joins (es ++ e ∷ []) gs
  joins_next es [] e s = tt
  joins_next es (g ∷ gs) e s = ends_push es e g.path (λ z. s (sym z))

  -- What is told of a block of which this is the path.
  pub told_more : (front : List ℕ) (es : List EntryData) (q w : List ℕ) (told : List Told) (one : Told) → SnapText profile es front →
      AreTold profile limits front (last_path es) told → EndsOther es q →
      IsBlockOf limits.max_record (Some q) w → Tells profile limits (length front) (record { path = Some q; bytes = w }) one →
      AreTold profile limits (front ++ w) (Some q) (told ++ one ∷ [])
  told_more front es q w told one h t o b s =
      more front (last_path es) told (record { path = Some q; bytes = w }) one t
      (record { ended = snap_end profile es [] front (inl refl) h; is_block = b; other = λ r x y. ends_path es q o (x ∙ sym y) }) s refl refl refl

  told_on : (es : List EntryData) (front : List ℕ) (gs : List EntryData) (rest : List ℕ) → SnapText profile es front →
      AreTold profile limits front (last_path es) (only es) → SnapText profile gs rest → Joins es gs →
      Unstopped (front ++ rest) → AreTold profile limits (front ++ rest) (last_path (es ++ gs)) (only (es ++ gs))
  told_on es front [] rest h t g j u =
      subst (λ (x : List ℕ). AreTold profile limits x (last_path (es ++ [])) (only (es ++ []))) (sym (ap (λ (x : List ℕ). front ++ x) g ∙ append-nil front))
      (subst (λ (x : List EntryData). AreTold profile limits front (last_path x) (only x)) (sym (append-nil es)) t)
  told_on es front (e ∷ gs) rest h t g j u =
      let text : front ++ rest ≡ (front ++ records e.path g.0) ++ g.1 = ap (λ (x : List ℕ). front ++ x) g.4 ∙ sym (append_assoc front (records e.path g.0) g.1) in
      let v : Unstopped ((front ++ records e.path g.0) ++ g.1) = subst Unstopped text u in
      let b = entry_block es front e g.0 h j g.2 (unstopped_front profile (block_limits limits) (front ++ records e.path g.0) g.1 v) in
      let one = told_more front es e.path (records e.path g.0) (only es) (inl e) h t j b.0 b.1 in
      let whole : AreTold profile limits (front ++ records e.path g.0) (last_path (es ++ e ∷ [])) (only (es ++ e ∷ [])) =
      subst (λ (x : Option (List ℕ)). AreTold profile limits (front ++ records e.path g.0) x (only (es ++ e ∷ []))) (sym (last_push es e))
      (subst (λ (x : List Told). AreTold profile limits (front ++ records e.path g.0) (Some e.path) x) (sym (only_push es e)) one) in
      let all = told_on (es ++ e ∷ []) (front ++ records e.path g.0) gs g.1 (snap_push profile es front e g.0 h g.2 j) whole g.5 (joins_next es gs e g.3) v in
      subst (λ (x : List ℕ). AreTold profile limits x (last_path (es ++ e ∷ gs)) (only (es ++ e ∷ gs))) (sym text)
      (subst (λ (x : List EntryData). AreTold profile limits ((front ++ records e.path g.0) ++ g.1) (last_path x) (only x)) (append_assoc es (e ∷ []) gs) all)

  none_told : AreTold profile limits [] None []
  none_told = none refl refl refl

  all_joins : (gs : List EntryData) → Joins [] gs
  all_joins [] = tt
  all_joins (g ∷ gs) = tt

  -- Of a snapshot that nothing stops all entries are told.
  pub snap_told : (es : List EntryData) (text : List ℕ) → SnapText profile es text → Unstopped text → AreTold profile limits text (last_path es) (only es)
  snap_told es text h u = told_on [] [] es text refl none_told h (all_joins es) u

  pub all_are_told : (bytes : List ℕ) (es : List EntryData) → IsDecoded profile (block_limits limits) bytes es → AreAllTold profile limits bytes (only es)
  all_are_told bytes es d = (snap_end profile es [] bytes (inl refl) d.whole, (last_path es, snap_told es bytes d.whole d.unstopped))

  -- ---- Where nothing stops the bytes

  -- So much is begun at the most.
  pub begun_short : (front r : List ℕ) → IsRecordEnd front → Lacks 10 r → Unstopped (front ++ r) → length r ≤ limits.max_record
  begun_short front r e n u = elim (last_in r) [
    | inl z ↦ omega (arith, ap length z)
    | inr w ↦
        let text : front ++ r ≡ (front ++ w.0) ++ w.1 ∷ [] = ap (λ (t : List ℕ). front ++ t) w.2 ∙ sym (append_assoc front w.0 (w.1 ∷ [])) in
        let f = unstopped_at profile (block_limits limits) (front ++ r) (front ++ w.0) w.1 [] text u in
        let begun : IsBegun (front ++ w.0) w.0 = record { front = front; split = refl; ended = e; plain = front_plain w.0 w.1 (subst (Lacks 10) w.2 n) } in
        let lt : length w.0 < limits.max_record = free_short profile (block_limits limits) (front ++ w.0) w.0 w.1 begun f.1 in
        omega (arith, lt, ap length w.2, length_push w.0 w.1)
  ]
    where
      front_plain : (x : List ℕ) (b : ℕ) → Lacks 10 (x ++ b ∷ []) → Lacks 10 x
      front_plain [] b n = tt
      front_plain (c ∷ x) b n = (n.0, front_plain x b n.1)

  -- A block that nothing stops behind entries, and what came of a line whose path isn't known.
  within_told : (es : List EntryData) (given q w tail bytes : List ℕ) → SnapText profile es given → EndsOther es q → IsPath q → AreOfOnePath q w →
      bytes ≡ given ++ (w ++ tail) → Unstopped bytes →
      IsOpen limits.max_record tail → (tail ≡ []) ⊎ IsRecordEnd w → IsWithin profile limits bytes (only es)
  within_told es given q w tail bytes h o g a e u i n =
      let s = block_begins q w a in
      let text : bytes ≡ (given ++ w) ++ tail = e ∙ sym (append_assoc given w tail) in
      let v : Unstopped (given ++ w) = unstopped_front profile (block_limits limits) (given ++ w) tail (subst Unstopped text u) in
      record {
        front = given;
        path = last_path es;
        blocks = snap_told es given h (unstopped_front profile (block_limits limits) given w v);
        block = record { path = Some q; bytes = w };
        follows = record {
          ended = snap_end profile es [] given (inl refl) h;
          is_block = (g, path_room es given q s.0 h g (subst (λ (t : List ℕ). Unstopped (given ++ t)) s.1 v), a);
          other = λ r x y. ends_path es q o (x ∙ sym y);
        };
        unstopped = unstopped_alone profile es given q h o g (block_limits limits) w s.0 s.1 (one_places q w a) v;
        tail = tail;
        split = e;
        is_open = i;
        ended = n;
      }

  -- Only the front of a path came.
  start_told : (es : List EntryData) (bytes : List ℕ) → es ≡ [] → Lacks 0 bytes → Lacks 10 bytes → Unstopped bytes → IsBehind profile limits bytes (only es)
  start_told es bytes z m n u = record {
    front = [];
    path = None;
    blocks = none refl refl (ap only z);
    left_out = inl (ap only z);
    tail = bytes;
    split = refl;
    is_open = record { no_nul = m; plain = n; short = begun_short [] bytes (inl refl) n u };
    ended = inr (inl refl);
  }

  pub nothing_left_out : (bytes : List ℕ) (es : List EntryData) → Closed profile bytes es → Unstopped bytes → AreToldBy profile limits bytes (only es)
  nothing_left_out bytes es c u = of c.of_path.last (last_in c.of_path.lines) (last_in es)
    where
      of : EndsOfPath c.path c.of_path.begun →
          HasLast c.of_path.lines →
          HasLast es → AreToldBy profile limits bytes (only es)
      of (inr l) m n = inr (within_told es c.given c.path c.present [] bytes c.entries c.other c.good
          (record { lines = c.of_path.lines; begun = c.of_path.begun; split = c.of_path.split; plain = c.of_path.plain; last = inr l })
          (c.split ∙ ap (λ (t : List ℕ). c.given ++ t) (sym (append-nil c.present))) u (record { no_nul = tt; plain = tt; short = omega arith }) (inl refl))
      of (inl k) (inr m) n =
          let some : c.of_path.lines ≢ [] = λ z. push_some m.0 m.1 (sym m.2 ∙ z) in
          let ended : IsRecordEnd (c.given ++ records c.path c.of_path.lines) = records_end c.path c.given c.of_path.lines (snap_end profile es [] c.given (inl refl) c.entries) in
          let text : bytes ≡ (c.given ++ records c.path c.of_path.lines) ++ c.of_path.begun = c.split ∙ (ap (λ (t : List ℕ). c.given ++ t) c.of_path.split ∙ sym (append_assoc c.given (records c.path c.of_path.lines) c.of_path.begun)) in
          inr (within_told es c.given c.path (records c.path c.of_path.lines) c.of_path.begun bytes c.entries c.other c.good (lines_of_one c.path c.of_path.lines some c.of_path.plain)
          (c.split ∙ ap (λ (t : List ℕ). c.given ++ t) c.of_path.split) u
          (record { no_nul = k.0; plain = k.1; short = begun_short (c.given ++ records c.path c.of_path.lines) c.of_path.begun ended k.1 (subst Unstopped text u) })
          (inr (records_end c.path [] c.of_path.lines (inl refl))))
      of (inl k) (inl z) (inr n) =
          let b = c.begun (λ e. push_some n.0 n.1 (sym n.2 ∙ e)) in
          let s : c.of_path.begun ≡ c.path ++ 0 ∷ b.0 = ap (λ (t : List (List ℕ)). records c.path t ++ c.of_path.begun) (sym z) ∙ (sym c.of_path.split ∙ b.1) in
          absurd (lacks_inside 0 c.path b.0 (subst (Lacks 0) s k.0))
      of (inl k) (inl z) (inl e) =
          let given : c.given ≡ [] = subst (λ (t : List EntryData). SnapText profile t c.given) e c.entries in
          let s : bytes ≡ c.of_path.begun = c.split ∙ (ap (λ (t : List ℕ). t ++ c.present) given ∙ (c.of_path.split ∙ ap (λ (t : List (List ℕ)). records c.path t ++ c.of_path.begun) z)) in
          inl (start_told es bytes e (subst (Lacks 0) (sym s) k.0) (subst (Lacks 10) (sym s) k.1) u)

-- ---- What a snapshot is that goes on from whole lines

-- The kind of the file at the path with which a snapshot begins.
kind_of : (profile : Profile) (fs : List EntryData) (q t y : List ℕ) → IsPath q → SnapText profile fs t → t ≡ q ++ 0 ∷ y →
    (kind : ReadForm) × ReadsAt profile q (Some kind)
kind_of profile [] q t y g h e = absurd (not_empty q y 0 (sym e ∙ h))
kind_of profile (f ∷ fs) q t y g h e =
    (h.2.kind, subst (λ (p : List ℕ). ReadsAt profile p (Some h.2.kind)) (first_path q f.path h.0 h.1 y g (entry_path f) h.2.some (sym h.4 ∙ e)) h.2.reads)

-- The path can be read, its lines are those of an entry, and what may follow them begins with a path that can be read.
pub record IsGoingOn (profile : Profile) (q : List ℕ) (lines : List (List ℕ)) (tail : List ℕ) : Type 0 where
  pub kind : ReadForm
  pub reads : ReadsAt profile q (Some kind)
  pub entry : lines ≢ [] → (e : EntryData) × (e.path ≡ q) × AreEntryLines profile e lines
  pub rest : List ℕ
  pub head : tail ≢ [] → Head profile (tail ++ rest)

module _ (profile : Profile) where
  -- Lines with which those of a file begin are those of an entry.
  first_entry : (q : List ℕ) (kind : ReadForm) (lines ms : List (List ℕ)) (v : Value) → IsPath q → ReadsAt profile q (Some kind) →
      AllByRecursion (Lacks 10) lines → ReadLines kind v (lines ++ ms) → lines ≢ [] →
      (e : EntryData) × (e.path ≡ q) × AreEntryLines profile e lines
  first_entry q kind lines ms v g r a s some =
      let file : Viable (KindFile kind) (unlines lines) = record { rest = unlines ms; whole = (v, record { lines = lines ++ ms; spelled = s; text_is = sym (unlines-append lines ms) }) } in
      let n = lines_can_end kind lines some a file in
      let x = has_entry profile q kind n.0 lines g r some n.1 in
      (x.entry, x.path_is, x.are)

  going_on : (q : List ℕ) (lines : List (List ℕ)) (tail y : List ℕ) → IsPath q → AllByRecursion (Lacks 10) lines → records q lines ++ tail ≡ q ++ 0 ∷ y →
      Viable (Snap profile) (records q lines ++ tail) → IsGoingOn profile q lines tail
  going_on q lines tail y g a e v =
      let text : (records q lines ++ tail) ++ v.rest ≡ records q lines ++ (tail ++ v.rest) = append_assoc (records q lines) tail v.rest in
      let whole : SnapText profile v.whole.0 (records q lines ++ (tail ++ v.rest)) = subst (SnapText profile v.whole.0) text v.whole.1 in
      let starts : records q lines ++ (tail ++ v.rest) ≡ q ++ 0 ∷ (y ++ v.rest) = sym text ∙ (ap (λ (t : List ℕ). t ++ v.rest) e ∙ append_assoc q (0 ∷ y) v.rest) in
      let k = kind_of profile v.whole.0 q (records q lines ++ (tail ++ v.rest)) (y ++ v.rest) g whole starts in
      let i = inner profile [] v.whole.0 [] q k.0 lines (tail ++ v.rest) (y ++ v.rest) g k.1 a refl tt starts whole in
      record {
        kind = k.0;
        reads = k.1;
        entry = first_entry q k.0 lines i.more i.entry.value g k.1 a i.file;
        rest = v.rest;
        head = λ some. inner_head profile [] v.whole.0 q k.0 lines (tail ++ v.rest) g k.1 i (λ z. some (append_empty tail v.rest z).0);
      }

  -- The same behind entries.
  pub going_on_behind : (es : List EntryData) (given q : List ℕ) (lines : List (List ℕ)) (tail y : List ℕ) → SnapText profile es given → EndsOther es q →
      IsPath q → AllByRecursion (Lacks 10) lines →
      records q lines ++ tail ≡ q ++ 0 ∷ y → Viable (Snap profile) (given ++ (records q lines ++ tail)) → IsGoingOn profile q lines tail
  going_on_behind es given q lines tail y h o g a e v = going_on q lines tail y g a e (viable_alone profile es given q h o g (records q lines ++ tail) y e v)

  -- After whole entries goes on what is the front of a path.
  pub path_goes : (es : List EntryData) (given begun : List ℕ) → SnapText profile es given → ArePathBytes begun → Viable (Snap profile) (given ++ begun)
  path_goes es given begun h b =
      let q = last_of es in
      let o = other_path profile begun q b in
      let r = one_record profile (begun ++ o.rest) _ o.good o.reads_at in
      let joins : Joins es (r.1 ∷ []) = other_ends es r.1.path (λ z. o.other (sym r.2 ∙ sym z)) in
      let text : SnapText profile (r.1 ∷ []) (begun ++ (o.rest ++ 0 ∷ r.0)) = subst (SnapText profile (r.1 ∷ [])) (append_assoc begun o.rest (0 ∷ r.0)) r.3 in
      let whole = snap_append profile es (r.1 ∷ []) given (begun ++ (o.rest ++ 0 ∷ r.0)) h text joins in
      record { rest = o.rest ++ 0 ∷ r.0; whole = (es ++ r.1 ∷ [], subst (SnapText profile (es ++ r.1 ∷ [])) (sym (append_assoc given begun (o.rest ++ 0 ∷ r.0))) whole) }
    where
      last_of : List EntryData → List ℕ
      last_of [] = []
      last_of (e ∷ []) = e.path
      last_of (e ∷ f ∷ es) = last_of (f ∷ es)

      other_ends : (es : List EntryData) (p : List ℕ) → (last_of es ≡ p → ⊥) → EndsOther es p
      other_ends [] p n = tt
      other_ends (e ∷ []) p n = n
      other_ends (e ∷ f ∷ es) p n = other_ends (f ∷ es) p n

-- ---- Where entries alone are told

only_none : (es : List EntryData) → only es ≡ [] → es ≡ []
only_none [] e = refl
only_none (f ∷ es) e = absurd (cc)

-- A byte stands first somewhere in a text, or nowhere.
abbrev pub HasFirst : ℕ → List ℕ → Type 0
HasFirst b xs = Lacks b xs ⊎ ((front : List ℕ) × (back : List ℕ) × Lacks b front × (xs ≡ front ++ b ∷ back))

pub first_of : (b : ℕ) (xs : List ℕ) → HasFirst b xs
first_of b [] = inl tt
first_of b (x ∷ xs) = elim (cases_eq x b) [
  | inl e ↦ inr ([], xs, tt, ap (λ (c : ℕ). c ∷ xs) e)
  | inr n ↦ elim (first_of b xs) [
    | inl l ↦ inl (n, l)
    | inr w ↦ inr (x ∷ w.0, w.1, (n, w.2), ap (λ (t : List ℕ). x ∷ t) w.3)
  ]
]

path_bytes_of : (bytes : List ℕ) → Lacks 0 bytes → Lacks 10 bytes → AreBytes bytes → ArePathBytes bytes
path_bytes_of [] m n s = tt
path_bytes_of (b ∷ bytes) m n s = ((some b m.0, s.0, n.0), path_bytes_of bytes m.1 n.1 s.1)
  where
    some : (b : ℕ) → b ≢ 0 → 0 < b
    some b n = omega (arith, n)

bytes_behind : (xs ys : List ℕ) → AreBytes (xs ++ ys) → AreBytes ys
bytes_behind [] ys a = a
bytes_behind (x ∷ xs) ys a = bytes_behind xs ys a.1

module _ (profile : Profile) (limits : Limits) where
  -- The entry of a block that is told has its path.
  pub told_path : (path : Option (List ℕ)) (w : List ℕ) (e : EntryData) → IsBlockOf limits.max_record path w →
      IsDecoded profile (block_limits limits) w (e ∷ []) → path ≡ Some e.path
  told_path (Some q) w e b d =
      let s = block_begins q w b.2 in
      ap (λ (t : List ℕ). Some t) (sym (first_path q e.path d.whole.0 d.whole.1 s.0 b.0 (entry_path e) d.whole.2.some (sym d.whole.4 ∙ s.1)))
  told_path None w e b d =
      let s = entry_starts e.path d.whole.0 d.whole.1 d.whole.2.some in
      let text : w ≡ e.path ++ 0 ∷ s.0 = d.whole.4 ∙ s.1 in
      absurd (b.none e.path (record { good = entry_path e; within = path_room profile limits [] [] e.path s.0 refl (entry_path e) (subst (Unstopped profile limits) text d.unstopped); back = s.0; split = text }))

  -- Blocks of which entries alone are told are the snapshot of these.
  pub told_decoded : (bytes : List ℕ) (path : Option (List ℕ)) (told : List Told) (es : List EntryData) → AreTold profile limits bytes path told →
      told ≡ only es → length bytes ≤ 18446744073709551615 →
      IsDecoded profile (block_limits limits) bytes es × (last_path es ≡ path)
  told_decoded bytes path told es (none b p t) e m =
      let z : es ≡ [] = only_none es (sym e ∙ t) in (
        record {
          whole = subst (λ (x : List EntryData). SnapText profile x bytes) (sym z) b;
          unstopped = subst (Unstopped profile limits) (sym b) (none_unstopped profile (block_limits limits));
        },
        ap last_path z ∙ sym p,
      )
  told_decoded bytes path told es (more front last before block one rest follows tells b p t) e m = elim (last_in es) [
    | inl z ↦ absurd (push_some before one (sym t ∙ (e ∙ ap only z)))
    | inr w ↦
        let same = push_both before (only w.0) one (inl w.1) (sym t ∙ (e ∙ (ap only w.2 ∙ only_push w.0 w.1))) in
        let r = told_decoded front last before w.0 rest same.0 (omega (arith, m, ap length b, length-append front block.bytes)) in
        let d : IsDecoded profile (block_limits limits) block.bytes (w.1 ∷ []) = subst (Tells profile limits (length front) block) same.1 tells in
        let q : block.path ≡ Some w.1.path = told_path block.path block.bytes w.1 follows.is_block d in
        let own : IsBlockOf limits.max_record (Some w.1.path) block.bytes = subst (λ (x : Option (List ℕ)). IsBlockOf limits.max_record x block.bytes) q follows.is_block in
        let o : EndsOther w.0 w.1.path = path_ends w.0 w.1.path (λ z. follows.other w.1.path (sym r.1 ∙ z) q) in
        let s = block_begins w.1.path block.bytes own.2 in
        let whole = snap_append profile w.0 (w.1 ∷ []) front block.bytes r.0.whole d.whole o in
        let u = unstopped_behind profile w.0 front w.1.path r.0.whole o (entry_path w.1) (block_limits limits) block.bytes s.0 s.1 (one_places profile limits w.1.path block.bytes own.2)
        (omega (arith, m, ap length b)) r.0.unstopped d.unstopped in
        let all : IsDecoded profile (block_limits limits) (front ++ block.bytes) (w.0 ++ w.1 ∷ []) = record { whole = whole; unstopped = u } in (
          subst (λ (x : List ℕ). IsDecoded profile (block_limits limits) x es) (sym b) (subst (λ (x : List EntryData). IsDecoded profile (block_limits limits) (front ++ block.bytes) x) (sym w.2) all),
          ap last_path w.2 ∙ (last_push w.0 w.1 ∙ (sym q ∙ sym p)),
        )
  ]

  next_head : (line : List ℕ) (b : ℕ) → Next (Snap profile) line b → (rest : List ℕ) × Head profile (line ++ b ∷ rest)
  next_head line b v = let g = go_on profile line b v in (g.0, snap_head profile g.1 (line ++ b ∷ g.0) g.2 (not_empty line g.0 b))

  -- What comes before the first NUL, which stops nothing, is a path.
  nul_path : (bytes front back : List ℕ) → Lacks 0 front → Lacks 10 front → bytes ≡ front ++ 0 ∷ back → Unstopped profile limits bytes →
      HasPath limits.max_record bytes front
  nul_path bytes front back m n e u =
      let v = unstopped_at profile (block_limits limits) bytes front 0 back e u in
      let r = next_head front 0 v.0 in
      let same : front ≡ r.1.path = (cut 0 front r.1.path r.0 r.1.rest m (path_lacks_nul r.1.path r.1.good) r.1.text_is).0 in
      record {
        good = subst IsPath (sym same) r.1.good;
        within = free_short profile (block_limits limits) front front 0 (record { front = []; split = refl; ended = inl refl; plain = n }) v.1;
        back = back;
        split = e;
      }

  -- A newline stops what comes of a path.
  newline_not : (line : List ℕ) → Lacks 0 line → Next (Snap profile) line 10 → ⊥
  newline_not line m v =
      let r = next_head line 10 v in
      let c = before 0 line r.1.path r.0 r.1.rest 10 m (λ z. absurd (omega (arith, z))) r.1.text_is in
      lacks_inside 10 line c.0 (subst (Lacks 10) c.1 (path_lacks_newline r.1.path r.1.good))

  -- Some byte stops a line without a path.
  pub without_stopped : (bytes : List ℕ) → IsWithoutPath limits.max_record bytes → Unstopped profile limits bytes → ⊥
  without_stopped bytes w u = of (first_of 0 bytes) w.split
    where
      line_plain : (front back line : List ℕ) → Lacks 10 line → (front ++ 0 ∷ back ≡ line) ⊎ (front ++ 0 ∷ back ≡ line ++ 10 ∷ []) → Lacks 10 front
      line_plain [] back line n e = tt
      line_plain (c ∷ front) back [] n (inl e) = absurd (cc)
      line_plain (c ∷ front) back [] n (inr e) = let t : front ++ 0 ∷ back ≡ [] = cc in absurd (not_empty front back 0 t)
      line_plain (c ∷ front) back (d ∷ line) n (inl e) = let t : front ++ 0 ∷ back ≡ line = cc in let h : c ≡ d = cc in ((λ z. n.0 (sym h ∙ z)), line_plain front back line n.1 (inl t))
      line_plain (c ∷ front) back (d ∷ line) n (inr e) = let t : front ++ 0 ∷ back ≡ line ++ 10 ∷ [] = cc in let h : c ≡ d = cc in ((λ z. n.0 (sym h ∙ z)), line_plain front back line n.1 (inr t))

      of : HasFirst 0 bytes → (bytes ≡ w.line) ⊎ (bytes ≡ w.line ++ 10 ∷ []) → ⊥
      of (inr f) e =
          let n : Lacks 10 f.0 = line_plain f.0 f.1 w.line w.plain (elim e [ inl z ↦ inl (sym f.3 ∙ z) | inr z ↦ inr (sym f.3 ∙ z) ]) in
          w.none f.0 (nul_path bytes f.0 f.1 f.2 n f.3 u)
      of (inl m) (inl e) =
          let plain : Lacks 10 bytes = subst (Lacks 10) (sym e) w.plain in
          w.known (record { no_nul = m; plain = plain; short = begun_short profile limits [] bytes (inl refl) plain u })
      of (inl m) (inr e) = newline_not w.line (lacks_front 0 w.line (10 ∷ []) (subst (Lacks 0) e m)) (unstopped_at profile (block_limits limits) bytes w.line 10 [] e u).0

  few_open : (front p tail : List ℕ) → IsRecordEnd front → Lacks 10 p → Lacks 0 tail → Lacks 10 tail →
      AreFew (IsManyRecords profile limits.max_lines) (front ++ p) tail
  few_open front p [] e n m k = tt
  few_open front p (b ∷ tail) e n m k =
      let same = append_assoc front p (b ∷ []) in (
        (λ x. not_many profile (front ++ p) p b limits.max_lines (length (front ++ p)) (record { front = front; split = refl; ended = e; plain = n }) m.0 x),
        subst (λ (t : List ℕ). AreFew (IsManyRecords profile limits.max_lines) t tail) (sym same) (few_open front (p ++ b ∷ []) tail e (lacks_both 10 p (b ∷ []) n (k.0, tt)) m.1 k.1),
      )

  -- What came of a line whose path isn't known, behind whole entries.
  open_unstopped : (es : List EntryData) (front tail : List ℕ) → SnapText profile es front → IsRecordEnd front → Unstopped profile limits front →
      IsOpen limits.max_record tail → AreBytes tail →
      length (front ++ tail) ≤ 18446744073709551615 → Unstopped profile limits (front ++ tail)
  open_unstopped es front tail h e u i s m =
      unstopped_run (Snap profile) (IsRecordWhy profile) (IsManyRecords profile) (block_limits limits) front [] tail u (path_goes profile es front tail h (path_bytes_of tail i.no_nul i.plain s))
      (record { front = front; split = sym (append-nil front); ended = e; plain = tt }) i.plain
      (subst (λ (t : List ℕ). AreFew (IsManyRecords profile limits.max_lines) t tail) (append-nil front) (few_open front [] tail e tt i.no_nul i.plain))
      (omega (arith, i.short)) (omega (arith, m, length-append front tail))

  behind_stops : (bytes : List ℕ) (es : List EntryData) → AreBytes bytes → length bytes ≤ 18446744073709551615 →
      IsBehind profile limits bytes (only es) → Closed profile bytes es × Unstopped profile limits bytes
  behind_stops bytes es s m h = elim h.left_out [
    | inl z ↦
        let e : es ≡ [] = only_none es z in
        let front : h.front ≡ [] = none_front h.front h.path (only es) h.blocks z in
        let text : bytes ≡ h.tail = h.split ∙ ap (λ (t : List ℕ). t ++ h.tail) front in
        let small : AreBytes h.tail = subst AreBytes text s in (
          start_closed profile bytes bytes es (record { none = e; bytes = refl; begun_path = subst ArePathBytes (sym text) (path_bytes_of h.tail h.is_open.no_nul h.is_open.plain small) }),
          subst (Unstopped profile limits) (sym text) (open_unstopped [] [] h.tail refl (inl refl) (none_unstopped profile (block_limits limits)) h.is_open small (omega (arith, m, ap length text))),
        )
    | inr w ↦ absurd (last_out es w.0 w.1 w.2)
  ]
    where
      none_front : (front : List ℕ) (path : Option (List ℕ)) (told : List Told) → AreTold profile limits front path told → told ≡ [] → front ≡ []
      none_front front path told (none b p t) z = b
      none_front front path told (more f last before block one rest follows tells b p t) z = absurd (push_some before one (sym t ∙ z))

      last_out : (es : List EntryData) (before : List Told) (out : LeftOut) → only es ≡ before ++ inr out ∷ [] → ⊥
      last_out es before out e = elim (last_in es) [
        | inl z ↦ push_some before (inr out) (sym e ∙ ap only z)
        | inr w ↦ entry_not_out w.1 out (push_both (only w.0) before (inl w.1) (inr out) (sym (only_push w.0 w.1) ∙ (ap only (sym w.2) ∙ e))).1
      ]

  -- The block that is begun, which has a path.
  block_stops : (bytes : List ℕ) (es : List EntryData) (q : List ℕ) → AreBytes bytes → length bytes ≤ 18446744073709551615 →
      (h : IsWithin profile limits bytes (only es)) → h.block.path ≡ Some q →
      Closed profile bytes es × Unstopped profile limits bytes
  block_stops bytes es q s m h e =
      let d = told_decoded h.front h.path (only es) es h.blocks refl (omega (arith, m, ap length h.split, length-append h.front (h.block.bytes ++ h.tail))) in
      let own : IsBlockOf limits.max_record (Some q) h.block.bytes = subst (λ (x : Option (List ℕ)). IsBlockOf limits.max_record x h.block.bytes) e h.follows.is_block in
      let a = own.2 in
      let o : EndsOther es q = path_ends es q (λ z. h.follows.other q (sym d.1 ∙ z) e) in
      let b = block_begins q h.block.bytes a in
      let text : bytes ≡ (h.front ++ h.block.bytes) ++ h.tail = h.split ∙ sym (append_assoc h.front h.block.bytes h.tail) in
      let u = unstopped_behind profile es h.front q d.0.whole o own.0 (block_limits limits) h.block.bytes b.0 b.1 (one_places profile limits q h.block.bytes a)
      (omega (arith, m, ap length text, length-append (h.front ++ h.block.bytes) h.tail)) d.0.unstopped h.unstopped in (
        record {
          given = h.front;
          present = h.block.bytes ++ h.tail;
          path = q;
          split = h.split;
          entries = d.0.whole;
          good = own.0;
          of_path = record {
            lines = a.lines;
            begun = a.begun ++ h.tail;
            split = ap (λ (t : List ℕ). t ++ h.tail) a.split ∙ append_assoc (records q a.lines) a.begun h.tail;
            plain = a.plain;
            last = last a h.is_open h.ended a.last;
          };
          begun = λ n. (b.0 ++ h.tail, ap (λ (t : List ℕ). t ++ h.tail) b.1 ∙ append_assoc q (0 ∷ b.0) h.tail);
          other = o;
        },
        subst (Unstopped profile limits) (sym text) (whole a o own.0 d.0.whole b u h.ended a.last text),
      )
    where
      nul_in : (a : AreOfOnePath q h.block.bytes) → IsRecordEnd h.block.bytes → (line : List ℕ) → Lacks 10 line → a.begun ≡ q ++ 0 ∷ line → IsPath q → ⊥
      nul_in a n line p z g =
          let some : a.begun ≢ [] = λ y. not_empty q line 0 (sym z ∙ y) in
          let w = end_behind (records q a.lines) a.begun some (subst IsRecordEnd a.split n) in
          lacks_inside 10 w.0 [] (subst (Lacks 10) w.1 (begun_plain q a.begun g (inr (line, p, z))))

      last : (a : AreOfOnePath q h.block.bytes) → IsOpen limits.max_record h.tail → (h.tail ≡ []) ⊎ IsRecordEnd h.block.bytes → EndsBlock q a.lines a.begun →
          EndsOfPath q (a.begun ++ h.tail)
      last a i n (inl z) = let same : h.tail ≡ a.begun ++ h.tail = ap (λ (t : List ℕ). t ++ h.tail) (sym z.0) in inl (subst (Lacks 0) same i.no_nul, subst (Lacks 10) same i.plain)
      last a i n (inr l) = inr (l.0 ++ h.tail, lacks_both 10 l.0 h.tail l.1 i.plain, ap (λ (t : List ℕ). t ++ h.tail) l.2 ∙ append_assoc q (0 ∷ l.0) h.tail)

      whole : (a : AreOfOnePath q h.block.bytes) → EndsOther es q → IsPath q → SnapText profile es h.front →
          (b : (back : List ℕ) × (h.block.bytes ≡ q ++ 0 ∷ back)) → Unstopped profile limits (h.front ++ h.block.bytes) →
          (h.tail ≡ []) ⊎ IsRecordEnd h.block.bytes → EndsBlock q a.lines a.begun → bytes ≡ (h.front ++ h.block.bytes) ++ h.tail →
          Unstopped profile limits ((h.front ++ h.block.bytes) ++ h.tail)
      whole a o g t b u (inl z) l text = subst (λ (x : List ℕ). Unstopped profile limits ((h.front ++ h.block.bytes) ++ x)) (sym z) (subst (Unstopped profile limits) (sym (append-nil (h.front ++ h.block.bytes))) u)
      whole a o g t b u (inr n) (inr l) text = absurd (nul_in a n l.0 l.1 l.2 g)
      whole a o g t b u (inr n) (inl z) text =
          let lines : h.block.bytes ≡ records q a.lines ++ [] = a.split ∙ ap (λ (x : List ℕ). records q a.lines ++ x) z.0 in
          let all : h.block.bytes ≡ records q a.lines = lines ∙ append-nil (records q a.lines) in
          let v = unstopped_viable profile (block_limits limits) (h.front ++ h.block.bytes) u in
          let goes = going_on_behind profile es h.front q a.lines [] b.0 t o g a.plain (sym lines ∙ b.1) (subst (λ (x : List ℕ). Viable (Snap profile) (h.front ++ x)) lines v) in
          let e = goes.entry z.1 in
          let snap : SnapText profile (es ++ e.0 ∷ []) (h.front ++ h.block.bytes) =
          subst (λ (x : List ℕ). SnapText profile (es ++ e.0 ∷ []) (h.front ++ x)) (sym all) (push_at profile es h.front q e.0 a.lines e.1 t e.2 o) in
          open_unstopped (es ++ e.0 ∷ []) (h.front ++ h.block.bytes) h.tail snap (ends_both h.front h.block.bytes h.follows.ended n) u h.is_open
          (bytes_behind (h.front ++ h.block.bytes) h.tail (subst AreBytes text s)) (omega (arith, m, ap length text))

  within_stops : (bytes : List ℕ) (es : List EntryData) → AreBytes bytes → length bytes ≤ 18446744073709551615 →
      (h : IsWithin profile limits bytes (only es)) → Closed profile bytes es × Unstopped profile limits bytes
  within_stops bytes es s m h = of h.block.path refl
    where
      of : (path : Option (List ℕ)) → h.block.path ≡ path → Closed profile bytes es × Unstopped profile limits bytes
      of None e = absurd (without_stopped h.block.bytes (subst (λ (x : Option (List ℕ)). IsBlockOf limits.max_record x h.block.bytes) e h.follows.is_block) h.unstopped)
      of (Some q) e = block_stops bytes es q s m h e

  pub nothing_stops : (bytes : List ℕ) (es : List EntryData) → AreBytes bytes → length bytes ≤ 18446744073709551615 →
      AreToldBy profile limits bytes (only es) → Closed profile bytes es × Unstopped profile limits bytes
  nothing_stops bytes es s m (inl h) = behind_stops bytes es s m h
  nothing_stops bytes es s m (inr h) = within_stops bytes es s m h

  pub all_are_decoded : (bytes : List ℕ) (es : List EntryData) → length bytes ≤ 18446744073709551615 → AreAllTold profile limits bytes (only es) →
      IsDecoded profile (block_limits limits) bytes es
  all_are_decoded bytes es m h = (told_decoded bytes h.1.0 (only es) es h.1.1 refl m).0

  -- ---- Own lines

  -- Among the bytes is a block of which this is told.
  record IsOf (bytes : List ℕ) (one : Told) : Type 0 where
    front : List ℕ
    block : Block
    back : List ℕ
    split : bytes ≡ front ++ (block.bytes ++ back)
    ended : IsRecordEnd front
    is_block : IsBlockOf limits.max_record block.path block.bytes
    tells : Tells profile limits (length front) block one

  of_longer : (bytes all back : List ℕ) (one : Told) → all ≡ bytes ++ back → IsOf bytes one → IsOf all one
  of_longer bytes all back one s h = record {
    front = h.front;
    block = h.block;
    back = h.back ++ back;
    split = s ∙ (ap (λ (t : List ℕ). t ++ back) h.split ∙ simp append_assoc);
    ended = h.ended;
    is_block = h.is_block;
    tells = h.tells;
  }

  told_of : (bytes : List ℕ) (path : Option (List ℕ)) (told before : List Told) (one : Told) (behind : List Told) → AreTold profile limits bytes path told →
      told ≡ before ++ one ∷ behind → IsOf bytes one
  told_of bytes path told before one behind (none b p t) s = absurd (some before (sym s ∙ t))
    where
      some : (xs : List Told) → xs ++ one ∷ behind ≡ [] → ⊥
      some [] z = cc
      some (x ∷ xs) z = cc
  told_of bytes path told before one behind (more front last others block x rest follows tells b p t) s = elim (last_in behind) [
    | inl z ↦
        let same = push_both others before x one (sym t ∙ (s ∙ ap (λ (y : List Told). before ++ one ∷ y) z)) in
        record {
          front = front;
          block = block;
          back = [];
          split = b ∙ ap (λ (y : List ℕ). front ++ y) (sym (append-nil block.bytes));
          ended = follows.ended;
          is_block = follows.is_block;
          tells = subst (Tells profile limits (length front) block) same.1 tells;
        }
    | inr w ↦
        let same = push_both others (before ++ one ∷ w.0) x w.1 (sym t ∙ (s ∙ (ap (λ (y : List Told). before ++ one ∷ y) w.2 ∙ sym (append_assoc before (one ∷ w.0) (w.1 ∷ []))))) in
        of_longer front bytes block.bytes one b (told_of front last others before one w.0 rest same.0)
  ]

  any_of : (bytes : List ℕ) (before : List Told) (one : Told) (behind : List Told) → AreToldOf profile limits bytes (before ++ one ∷ behind) → IsOf bytes one
  any_of bytes before one behind (inl (inl h)) = of_longer h.front bytes h.tail one h.split (told_of h.front h.path (before ++ one ∷ behind) before one behind h.blocks refl)
  any_of bytes before one behind (inl (inr h)) =
      of_longer h.front bytes (h.block.bytes ++ h.tail) one h.split (told_of h.front h.path (before ++ one ∷ behind) before one behind h.blocks refl)
  any_of bytes before one behind (inr h) = told_of bytes h.1.0 (before ++ one ∷ behind) before one behind h.1.1 refl

  pub own_lines : (bytes : List ℕ) (before : List Told) (e : EntryData) (behind : List Told) → AreToldOf profile limits bytes (before ++ inl e ∷ behind) →
      IsOwn profile limits bytes e
  own_lines bytes before e behind h =
      let o = any_of bytes before (inl e) behind h in
      record {
        front = o.front;
        block = o.block.bytes;
        back = o.back;
        split = o.split;
        ended = o.ended;
        is_block = subst (λ (x : Option (List ℕ)). IsBlockOf limits.max_record x o.block.bytes) (told_path o.block.path o.block.bytes e o.is_block o.tells) o.is_block;
        decoded = o.tells;
      }

  pub own_faults : (bytes : List ℕ) (before : List Told) (out : LeftOut) (behind : List Told) → AreToldOf profile limits bytes (before ++ inr out ∷ behind) →
      IsOwnFault profile limits bytes out
  own_faults bytes before out behind h =
      let o = any_of bytes before (inr out) behind h in
      record {
        front = o.front;
        block = o.block.bytes;
        back = o.back;
        split = o.split;
        ended = o.ended;
        is_block = subst (λ (x : Option (List ℕ)). IsBlockOf limits.max_record x o.block.bytes) (sym o.tells.path) o.is_block;
        stop = o.tells.stop;
        stops = o.tells.stops;
        at = o.tells.at;
        cause_is = o.tells.cause;
      }
