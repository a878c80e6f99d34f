-- The subcommand that the words name has the name of a command.
use Rattle.std.proofs.Common.{◌≡◌, List, [], ◌∷◌, Option, Some, None, true, false, Bool, refl, sym, cond, is_some, option_map, ◌&&◌, true≢false}
use Rattle.std.specs.List.{list_all}
use Rattle.std.specs.Prelude.{find}
use Rattle.clap.specs.Words.{App, Text, Shape, is_simple, subcommand_of, built}
use Rattle.clap.specs.Faults.{is_simple_and_free}
use Rattle.clap.specs.Simple.{entered, rows_at, argument_words, names_of}
use Rattle.clap.specs.Walk.{stop_after}
use Rattle.clap.proofs.OnLiterals.{clap_on_literals}
use Rattle.cg_program.specs.CommandLine.{Lent, cgfile_app}
use Rattle.cg_program.specs.Words.{is_met, is_word}

pub simple_app : (names : Lent) → is_simple (cgfile_app names) ≡ true
unfolding cgfile_app clap_on_literals
simple_app names = refl

pub free_app : (names : Lent) → is_simple_and_free (cgfile_app names) ≡ true
unfolding cgfile_app clap_on_literals
free_app names = refl

pub needs_subcommand : (names : Lent) → (cgfile_app names).top.subcommand_required ≡ true
unfolding cgfile_app clap_on_literals
needs_subcommand names = refl

known_subs : (names : Lent) → list_all (λ s. is_word s.name) (built (cgfile_app names)).subs ≡ true
unfolding cgfile_app clap_on_literals
known_subs names = refl

both : (a b : Bool) → (a && b) ≡ true → (a ≡ true) × (b ≡ true)
both true b e = (refl, e)
both false b e = absurd (true≢false (sym e))

found : (b : Bool) (s : Shape) (words : List Text) (o : Option Shape) → is_word s.name ≡ true
    → (is_some (option_map (λ s. rows_at s words) o) ≡ true → is_met (option_map (λ s. rows_at s words) o) ≡ true)
    → is_some (option_map (λ s. rows_at s words) (cond b (Some s) o)) ≡ true
    → is_met (option_map (λ s. rows_at s words) (cond b (Some s) o)) ≡ true
found true s words o k f e = k
found false s words o k f e = f e

find_known : (p : Shape → Bool) (words : List Text) (xs : List Shape) → list_all (λ s. is_word s.name) xs ≡ true
    → is_some (option_map (λ s. rows_at s words) (find p xs)) ≡ true
    → is_met (option_map (λ s. rows_at s words) (find p xs)) ≡ true
find_known p words [] k e = absurd (true≢false (sym e))
find_known p words (x ∷ xs) k e =
    let parts = both _ _ k in
    found (p x) x words (find p xs) parts.0 (find_known p words xs parts.1) e

entered_known : (a : App) (stop : Option (Text × List Text)) → list_all (λ s. is_word s.name) a.subs ≡ true → is_some (entered a stop) ≡ true → is_met (entered a stop) ≡ true
entered_known a None k e = absurd (true≢false (sym e))
entered_known a (Some p) k e = find_known _ p.1 a.subs k e

pub met_is_word : (names : Lent) (words : List Text) → is_some (subcommand_of (cgfile_app names) words) ≡ true → is_met (subcommand_of (cgfile_app names) words) ≡ true
met_is_word names words e = entered_known (built (cgfile_app names)) (stop_after (built (cgfile_app names)).top.rules (names_of (built (cgfile_app names))) (argument_words (cgfile_app names) words)) (known_subs names) e

pub some_rows : {X Y : Type 0} (f : X → Y) (o : Option X) → is_some o ≡ true → is_some (option_map f o) ≡ true
some_rows f None e = e
some_rows f (Some x) e = refl
