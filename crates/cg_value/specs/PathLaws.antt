-- What holds of names and of paths.
use Rattle.std.proofs.Common.{◌≡◌, ◌≢◌, ℕ, zero, suc, ◌+◌, ◌-◌, ◌<◌, inl, inr, List, [], ◌∷◌, take, drop, length, get_or, refl, sym, ◌∙◌, subst, arith}
use Rattle.std.proofs.lemmas.List.{take_more, take_all}
use Rattle.std.proofs.lemmas.List.{get_or-drop}
use Rattle.std.proofs.Common.{length-drop, take-append-drop, eq-eqb}
use Rattle.memchr.specs.Find.{Nowhere, Passes, is_byte}
use Rattle.cg_text.specs.Texts.{Lacks}
use Rattle.std.specs.Prelude.{All}
use Rattle.cg_value.specs.Entry.{IsPath, IsPathByte}
use Rattle.cg_value.specs.Path.{IsNameOf}

-- ---- Searches

lacks_at : (b : ℕ) (xs : List ℕ) → ((i : ℕ) → i < length xs → get_or xs i 0 ≢ b) → Lacks b xs
lacks_at b [] none = tt
lacks_at b (x ∷ xs) none = (none 0 (omega arith), lacks_at b xs (λ i h. none (suc i) (omega (arith, h))))

-- Where a search finds no such byte from a place on, none stands there.
lacks_from : (b : ℕ) (xs : List ℕ) (n : ℕ) → Nowhere (Passes (is_byte b) xs) n (length xs) → Lacks b (drop n xs)
lacks_from b xs n none = lacks_at b (drop n xs) (λ i h e.
    let far = length-drop n xs in
    none (n + i) (omega arith) (omega (arith, h, far)) (eq-eqb (get_or xs (n + i) 0) b (sym (get_or-drop n xs i 0) ∙ e)))

pub lacks_all : (b : ℕ) (xs : List ℕ) → Nowhere (Passes (is_byte b) xs) 0 (length xs) → Lacks b xs
lacks_all b xs none = lacks_from b xs 0 none

pub byte_there : (b : ℕ) (xs : List ℕ) (k : ℕ) → k < length xs → get_or xs k 0 ≡ b → Lacks b xs → ⊥
byte_there b [] k h e l = omega (arith, h)
byte_there b (x ∷ xs) zero h e l = l.0 e
byte_there b (x ∷ xs) (suc k) h e l = byte_there b xs k (omega (arith, h)) e l.1

-- The name behind the last '/'; and the whole path, where there is none.
pub name_behind : (path : List ℕ) (k : ℕ) → k < length path → get_or path k 0 ≡ 47 → Nowhere (Passes (is_byte 47) path) (k + 1) (length path) → IsNameOf path (drop (k + 1) path)
name_behind path k h e none = record {
  directory = take (k + 1) path;
  whole = sym (take-append-drop (k + 1) path);
  ends = inr (take k path, rw (take_more path k 0 h, e) refl);
  plain = lacks_from 47 path (k + 1) none;
}

pub name_alone : (path : List ℕ) → Nowhere (Passes (is_byte 47) path) 0 (length path) → IsNameOf path (drop 0 path)
name_alone path none = record { directory = []; whole = refl; ends = inl refl; plain = lacks_from 47 path 0 none }

-- ---- Paths

one_more : (x : ℕ) (xs : List ℕ) → IsPathByte x → All IsPathByte xs → All IsPathByte (x ∷ xs)
one_more x xs first rest zero d h = first
one_more x xs first rest (suc k) d h = rest k d (omega (arith, h))

-- Bytes that are neither NUL nor a newline.
pub path_bytes : (path : List ℕ) → ((k : ℕ) → k < length path → get_or path k 0 < 256) → Lacks 0 path → Lacks 10 path → All IsPathByte path
path_bytes [] bytes no_nul no_newline = λ k d h. absurd (omega (arith, h))
path_bytes (x ∷ xs) bytes no_nul no_newline =
    one_more x xs (omega (arith, no_nul.0), bytes 0 (omega arith), no_newline.0) (path_bytes xs (λ j g. bytes (suc j) (omega (arith, g))) no_nul.1 no_newline.1)

-- A path has no byte that is none of a path.
pub path_lacks : (b : ℕ) → (IsPathByte b → ⊥) → (path : List ℕ) → All IsPathByte path → Lacks b path
path_lacks b n [] all = tt
path_lacks b n (x ∷ xs) all = ((λ e. n (subst IsPathByte e (all 0 0 (omega arith)))), path_lacks b n xs (λ k d h. all (suc k) d (omega (arith, h))))

pub path_lacks_nul : (path : List ℕ) → IsPath path → Lacks 0 path
path_lacks_nul path p = path_lacks 0 (λ b. absurd (omega (arith, b.0))) path p.bytes

pub path_lacks_newline : (path : List ℕ) → IsPath path → Lacks 10 path
path_lacks_newline path p = path_lacks 10 (λ b. b.2 refl) path p.bytes

-- A path by its last byte.
pub path_of : (path : List ℕ) → 0 < length path → get_or path (length path - 1) 0 ≢ 47 → All IsPathByte path → IsPath path
path_of path some named bytes = record {
  bytes = bytes;
  front = take (length path - 1) path;
  last = get_or path (length path - 1) 0;
  ends = sym (take_all (length path - 1 + 1) path (omega (arith, some))) ∙ take_more path (length path - 1) 0 (omega (arith, some));
  named = named;
}
