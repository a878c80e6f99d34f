use Rattle.std.proofs.Common.{[], ◌∷◌, sym, ◌∙◌, eq-eqb, eqb-true, eqb}
use Rattle.cg_join.specs.DistinctLaws.{distinct_begins, distinct_ends}
use Rattle.cg_text.specs.WordState.{is_taken}
use Rattle.cg_join.specs.WordStartLaws.{SpellsWord, word_new, new_word_text, taken_is}
use Rattle.cg_text.specs.contracts.word.WordTextToken.TheImpl as word_text
use Rattle.cg_join.proofs.distinct.DistinctWordsToken.allows.Goals as goal

pub returns : goal.returns
returns c =
    let old = c.args.self.now in
    let P = word_text.ghosts.means old.current in
    let R = SpellsWord old.start.controller in
    let ends = distinct_ends P R old.separator old.items.items (is_taken old.current.bytes.items)
    (word_text.ghosts.ends old.current) old.distinct
    (taken_is old.current.controller old.current.bytes.items old.current.sound)
    (word_text.ghosts.one_value old.current) (word_text.ghosts.ends_is old.current) in
    distinct_begins P R old.separator old.items.items c.args.byte old.distinct
    (λ h. word_new old.current.controller old.current.bytes.items (c.args.byte ∷ []) h old.items.items) (new_word_text old.start.controller)
    c.allows-more.result (eqb c.args.byte old.separator) c.can_end-ended.result c.allows-more.ensures
    (λ e. eqb-true c.args.byte old.separator e, λ e. eq-eqb c.args.byte old.separator e)
    (λ e. ends.0 (sym c.can_end-ended.ensures ∙ e), λ h. c.can_end-ended.ensures ∙ ends.1 h)
