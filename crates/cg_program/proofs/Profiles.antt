-- What the name of a profile gives.
use Rattle.std.proofs.Common.{◌≡◌, Option, Some, true, false, refl, codes}
use Rattle.std.specs.Str.{bytes_eq}
use Rattle.clap.specs.Words.{Text}
use Rattle.cg_value.specs.declared.profile.Profile.{Profile}
use Rattle.cg_value.specs.declared.profile.Profile.TheVariants.{One, Two, Kernel}
use Rattle.cg_program.specs.Words.{profile_named}

pub is_two : (given : Profile) (name : Text) (o : Option Text) → bytes_eq name (codes "2") ≡ true → Some name ≡ o → Two ≡ profile_named given o
is_two given name o e same = rw (← same, e) refl

pub is_kernel : (given : Profile) (name : Text) (o : Option Text) → bytes_eq name (codes "2") ≡ false → bytes_eq name (codes "kernel") ≡ true → Some name ≡ o → Kernel ≡ profile_named given o
is_kernel given name o d e same = rw (← same, d, e) refl

pub is_one : (given : Profile) (name : Text) (o : Option Text) → bytes_eq name (codes "2") ≡ false → bytes_eq name (codes "kernel") ≡ false → Some name ≡ o → One ≡ profile_named given o
is_one given name o d e same = rw (← same, d, e) refl
