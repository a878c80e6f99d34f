-- What record is begun in each state, and which entries are closed.
use Rattle.std.proofs.Common.{◌≡◌, ℕ, List, [], ◌∷◌, ◌++◌, refl, sym, subst, ◌∙◌, append_assoc, inl, inr}
use Rattle.std.specs.List.{AllByRecursion}
use Rattle.std.proofs.lemmas.List.{append-nil}
use Rattle.cg_text.specs.Texts.{Lacks}
use Rattle.cg_text.specs.TextsLaws.{lacks_both}
use Rattle.cg_value.specs.Entry.{EntryData, IsPath}
use Rattle.cg_value.specs.PathLaws.{path_lacks_newline}
use Rattle.cg_value.specs.Records.{records}
use Rattle.cg_value.specs.declared.profile.Profile.{Profile}
use Rattle.cg_snap.specs.Closed.{Closed, EndsOther}
use Rattle.cg_snap.specs.Begun.{IsBegun, IsRecordEnd}
use Rattle.cg_snap.specs.DecoderState.{HasConsumedInLine, HasConsumedInPath, HasConsumedAPath}
use Rattle.cg_snap.specs.Snap.{SnapText}
use Rattle.cg_snap.specs.declared.present.CurrentEntry.{CurrentEntry}
use Rattle.cg_snap.proofs.Refusals.{line_start, records_start}
use Rattle.cg_snap.proofs.Steps.{bytes_no_newline, bytes_no_nul, other_path}

pub records_end : (q g : List ℕ) (ls : List (List ℕ)) → IsRecordEnd g → IsRecordEnd (g ++ records q ls)
records_end q g [] h = rw append-nil h
records_end q g (l ∷ ls) h =
    let r = records_end q (g ++ (q ++ 0 ∷ (l ++ 10 ∷ []))) ls (inr (g ++ (q ++ 0 ∷ l), simp append_assoc)) in
    subst IsRecordEnd (simp append_assoc) r

end_text : (g r t s : List ℕ) → s ≡ r ++ t → (g ++ r) ++ t ≡ g ++ s
end_text g r t s e = rw e (append_assoc g r t)

pub nul_plain : (q l : List ℕ) → IsPath q → Lacks 10 l → Lacks 10 (q ++ 0 ∷ l)
nul_plain q l g n = lacks_both 10 q (0 ∷ l) (path_lacks_newline q g) ((λ e. absurd (cc)), n)

pub start_begun : (begun p : List ℕ) (es : List EntryData) → HasConsumedAPath begun p es → IsBegun p begun
start_begun begun p es h = record { front = []; split = h.bytes; ended = inl refl; plain = bytes_no_newline begun h.begun_path }

module _ (profile : Profile) where
  pub snap_end : (es : List EntryData) (g s : List ℕ) → IsRecordEnd g → SnapText profile es s → IsRecordEnd (g ++ s)
  snap_end [] g s h t = rw (t, append-nil) h
  snap_end (e ∷ es) g s h t = subst IsRecordEnd (end_text g (records e.path t.0) t.1 s t.4) (snap_end es (g ++ records e.path t.0) t.1 (records_end e.path g t.0 h) t.5)

  -- After whole entries and whole records, what comes without a newline is begun.
  pub begun_after : (es : List EntryData) (given q : List ℕ) (ls : List (List ℕ)) (p r : List ℕ) → SnapText profile es given → p ≡ given ++ (records q ls ++ r) → Lacks 10 r → IsBegun p r
  begun_after es given q ls p r h e n = record {
    front = given ++ records q ls;
    split = e ∙ sym (append_assoc given (records q ls) r);
    ended = records_end q given ls (snap_end es [] given (inl refl) h);
    plain = n;
  }

  pub path_begun : (begun : List ℕ) (x : CurrentEntry) (p : List ℕ) (es : List EntryData) → HasConsumedInPath profile begun x p es → IsBegun p begun
  path_begun begun x p es h = begun_after es h.given x.path.items h.lines p begun h.entries h.split (bytes_no_newline begun h.begun_path)

  pub line_begun : (begun : List ℕ) (x : CurrentEntry) (p : List ℕ) (es : List EntryData) (h : HasConsumedInLine profile begun x p es) → IsBegun p (x.path.items ++ 0 ∷ h.line)
  line_begun begun x p es h = begun_after es h.given x.path.items h.lines p (x.path.items ++ 0 ∷ h.line) h.entries h.split (nul_plain x.path.items h.line h.good h.plain_line)

  -- ---- Closed

  abbrev pub start_closed : (begun p : List ℕ) (es : List EntryData) → HasConsumedAPath begun p es → Closed profile p es
  start_closed begun p es h =
      let o = other_path profile [] [] tt in
      record {
        given = [];
        present = begun;
        path = o.rest;
        split = h.bytes;
        entries = rw h.none refl;
        good = o.good;
        of_path = record { lines = []; begun = begun; split = refl; plain = tt; last = inl (bytes_no_nul begun h.begun_path, bytes_no_newline begun h.begun_path) };
        begun = λ n. absurd (n h.none);
        other = rw h.none tt;
      }

  abbrev pub path_closed : (begun : List ℕ) (x : CurrentEntry) (p : List ℕ) (es : List EntryData) → HasConsumedInPath profile begun x p es → Closed profile p es
  path_closed begun x p es h = record {
    given = h.given;
    present = records x.path.items h.lines ++ begun;
    path = x.path.items;
    split = h.split;
    entries = h.entries;
    good = h.good;
    of_path = record { lines = h.lines; begun = begun; split = refl; plain = h.plain; last = inl (bytes_no_nul begun h.begun_path, bytes_no_newline begun h.begun_path) };
    begun = λ n. records_start x.path.items h.lines begun h.some;
    other = h.other;
  }

  -- After whole entries and whole records of a path came its NUL and the front of a line.
  abbrev pub nul_closed : (es : List EntryData) (given q : List ℕ) (ls : List (List ℕ)) (line p : List ℕ) →
      SnapText profile es given → EndsOther es q → IsPath q → AllByRecursion (Lacks 10) ls → Lacks 10 line →
      p ≡ given ++ (records q ls ++ (q ++ 0 ∷ line)) → Closed profile p es
  nul_closed es given q ls line p h o g a n e = record {
    given = given;
    present = records q ls ++ (q ++ 0 ∷ line);
    path = q;
    split = e;
    entries = h;
    good = g;
    of_path = record { lines = ls; begun = q ++ 0 ∷ line; split = refl; plain = a; last = inr (line, n, refl) };
    begun = λ n. line_start q ls line;
    other = o;
  }

  abbrev pub line_closed : (begun : List ℕ) (x : CurrentEntry) (p : List ℕ) (es : List EntryData) → HasConsumedInLine profile begun x p es → Closed profile p es
  line_closed begun x p es h = nul_closed es h.given x.path.items h.lines h.line p h.entries h.other h.good h.plain h.plain_line h.split
