-- How a `clap` command that is built up by arguments and subcommands becomes its data, and what an
-- option's text gives as a number.
use Rattle.std.proofs.Common.{◌≡◌, ℕ, List, [], ◌∷◌, Option, Some, None, true, false, Bool, ◌||◌, refl, sym, ap, ap₂, ◌∙◌, ltb-true, lt-ltb, length, ◌<◌, ◌&&◌, nat_lt, true≢false}
use Rattle.std.specs.List.{list_all}
use Rattle.std.specs.Str.Parse.{digits_value, without_leading_plus, AllDigits}
use Rattle.std.specs.Char.{digit_value}
use Rattle.clap.specs.Words.{App, Rule, Text, AddsArg, AddsSubcommand, app_of, rule_of, with_rule, with_subcommand}
use Rattle.clap.specs.declared.builder.command.Command.{Command}
use Rattle.clap.specs.declared.builder.arg.Arg.{Arg}
use Rattle.clap.specs.declared.builder.command.Command.TheViews.{out-Command}
use Rattle.cg_program.specs.Words.{number_in, number_or}

pub arg_app : (old new : Command) (a : Arg) (x : App) (r : Rule) → AddsArg old a new → app_of old ≡ x → rule_of a ≡ r → a.global ≡ false → app_of new ≡ with_rule x r
arg_app old new a x r h e f g = h.shape g ∙ ap₂ with_rule e f

pub arg_local : (old new : Command) (a : Arg) → AddsArg old a new → (out-Command old).has_globals ≡ false → a.global ≡ false → (out-Command new).has_globals ≡ false
arg_local old new a h e g = h.globals ∙ ap₂ (λ x y. x || y) e g

pub adds_app : (old new sub : Command) (x y : App) → AddsSubcommand old sub new → app_of old ≡ x → app_of sub ≡ y → (out-Command sub).has_globals ≡ false → app_of new ≡ with_subcommand x y.top
adds_app old new sub x y h e f g = h.shape g ∙ ap₂ with_subcommand e (ap (λ (a : App). a.top) f)

pub adds_local : (old new sub : Command) → AddsSubcommand old sub new → (out-Command old).has_globals ≡ false → (out-Command sub).has_globals ≡ false → (out-Command new).has_globals ≡ false
adds_local old new sub h e g = h.globals ∙ ap₂ (λ x y. x || y) e g

digits_pass : (ds : List ℕ) → AllDigits 10 ds → list_all (λ d. nat_lt (digit_value d) 10) ds ≡ true
digits_pass [] h = refl
digits_pass (d ∷ ds) h = rw (lt-ltb (digit_value d) 10 h.0) (digits_pass ds h.1)

both : (a b : Bool) → (a && b) ≡ true → (a ≡ true) × (b ≡ true)
both true b e = (refl, e)
both false b e = absurd (true≢false (sym e))

digits_from : (ds : List ℕ) → list_all (λ d. nat_lt (digit_value d) 10) ds ≡ true → AllDigits 10 ds
digits_from [] e = tt
digits_from (d ∷ ds) e =
    let parts = both _ _ e in
    (ltb-true _ _ parts.0, digits_from ds parts.1)

abbrev is_number : List ℕ → Bool
is_number ds = nat_lt 0 (length ds) && list_all (λ d. nat_lt (digit_value d) 10) ds && nat_lt (digits_value 10 ds) 18446744073709551616

abbrev IsNumber : Text → Type 0
IsNumber t = ((0 < length (without_leading_plus t)) × AllDigits 10 (without_leading_plus t)) × (digits_value 10 (without_leading_plus t) < 18446744073709551616)

read_ok : (given : ℕ) (text : Text) (n : ℕ) → IsNumber text × (n ≡ digits_value 10 (without_leading_plus text)) → n ≡ number_in given text
read_ok given text n h =
    let ds = without_leading_plus text in
    rw (lt-ltb 0 (length ds) h.0.0.0, digits_pass ds h.0.0.1, lt-ltb (digits_value 10 ds) 18446744073709551616 h.0.1) h.1

read_err : (given : ℕ) (text : Text) → (IsNumber text → ⊥) → given ≡ number_in given text
read_err given text h = go (is_number (without_leading_plus text)) refl
  where
    go : (b : Bool) → is_number (without_leading_plus text) ≡ b → given ≡ number_in given text
    go false t = rw t refl
    go true t =
        let outer = both _ _ t in
        let inner = both _ _ outer.0 in
        absurd (h ((ltb-true _ _ inner.0, digits_from (without_leading_plus text) inner.1), ltb-true _ _ outer.1))

-- what `get_one` gives, with the default in place of nothing
pub read_some : (given : ℕ) (o : Option Text) (n : ℕ) → (o ≡ None → Some n ≡ None) → ((t : Text) → o ≡ Some t → IsNumber t × (n ≡ digits_value 10 (without_leading_plus t))) → n ≡ number_or given o
read_some given None n none value = let bad : Some n ≡ None = none refl in cc
read_some given (Some t) n none value = read_ok given t n (value t refl)

pub read_none : (given : ℕ) (o : Option Text) → ((t : Text) → o ≡ Some t → IsNumber t → ⊥) → given ≡ number_or given o
read_none given None value = refl
read_none given (Some t) value = read_err given t (value t refl)
