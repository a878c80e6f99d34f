use Rattle.std.proofs.Common.{refl, codes}
use Rattle.cg_join.specs.DisjointLaws.{disjoint_swap, either_disjoint, fixed_disjoint}
use Rattle.cg_join.specs.Spelling.{Disjoint, IsEither, choice_spells, none_spells}
use Rattle.cg_join.specs.TextBytes.{IsFixed}
use Rattle.cg_file.proofs.mode.mode_text.Goals as goal

-- Neither of two words is one of two others.
two_and_two : Disjoint (IsEither (IsFixed (codes "domain")) (IsFixed (codes "domain threaded"))) (IsEither (IsFixed (codes "domain invalid")) (IsFixed (codes "threaded")))
two_and_two =
    let domain = IsFixed (codes "domain") in
    let domain_threaded = IsFixed (codes "domain threaded") in
    let domain_invalid = IsFixed (codes "domain invalid") in
    let threaded = IsFixed (codes "threaded") in
    let one = either_disjoint domain domain_threaded domain_invalid
    (fixed_disjoint (codes "domain invalid") (codes "domain") refl)
    (fixed_disjoint (codes "domain invalid") (codes "domain threaded") refl) in
    let other = either_disjoint domain domain_threaded threaded
    (fixed_disjoint (codes "threaded") (codes "domain") refl)
    (fixed_disjoint (codes "threaded") (codes "domain threaded") refl) in
    either_disjoint domain_invalid threaded (IsEither domain domain_threaded) (disjoint_swap domain_invalid (IsEither domain domain_threaded) one) (disjoint_swap threaded (IsEither domain domain_threaded) other)

pub new-sound-requires-clause-apart : goal.new-sound-requires-clause-apart
new-sound-requires-clause-apart c =
    none_spells c.new-domain.ensures.spells c.new-domain_threaded.ensures.spells
    (disjoint_swap (IsFixed (codes "domain threaded")) (IsFixed (codes "domain")) (fixed_disjoint (codes "domain threaded") (codes "domain") refl))

pub new-other-requires-clause-apart : goal.new-other-requires-clause-apart
new-other-requires-clause-apart c = none_spells c.new-domain_invalid.ensures.spells c.new-threaded.ensures.spells (fixed_disjoint (codes "domain invalid") (codes "threaded") refl)

pub new-requires-clause-apart : goal.new-requires-clause-apart
new-requires-clause-apart c =
    let sound = choice_spells c.new-domain.ensures.spells c.new-domain_threaded.ensures.spells c.new-sound.ensures.spells in
    let other = choice_spells c.new-domain_invalid.ensures.spells c.new-threaded.ensures.spells c.new-other.ensures.spells in
    none_spells sound other two_and_two

pub returns-clause-spells : goal.returns-clause-spells
returns-clause-spells c =
    let sound = choice_spells c.new-domain.ensures.spells c.new-domain_threaded.ensures.spells c.new-sound.ensures.spells in
    let other = choice_spells c.new-domain_invalid.ensures.spells c.new-threaded.ensures.spells c.new-other.ensures.spells in
    choice_spells sound other c.new.ensures.spells
