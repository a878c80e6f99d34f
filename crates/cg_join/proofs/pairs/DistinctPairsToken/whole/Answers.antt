use Rattle.std.proofs.Common.{◌≡◌, ◌+◌, [], ◌∷◌, ◌++◌, map, take, drop, refl, sym, ◌∙◌, ap, arith}
use Rattle.cg_index.specs.KeyedLaws.{not_among}
use Rattle.cg_join.specs.PairsLaws.{words_push}
use Rattle.cg_join.specs.Pairs.{IsPairText, pair_size}
use Rattle.cg_join.specs.PairsLaws.{pair_as}
use Rattle.cg_join.specs.Repeat.{items_size}
use Rattle.cg_join.specs.RepeatLaws.{size_pushed}
use Rattle.cg_join.specs.WholeLineLaws.{front_longer, list_longer, pushed_last, pushed_new}
use Rattle.cg_join.specs.WordStartLaws.{SpellsWord}
use Rattle.cg_text.specs.contracts.word.WordTextToken.TheImpl as word_text
use Rattle.cg_join.proofs.pairs.DistinctPairsToken.whole.Goals as goal

pub loop-used-init : goal.loop-used-init
loop-used-init g c =
    let p = c.in-Some.found.0 in
    let f = pair_size g.F.Pairing.word_of g.F.Pairing.value_of word_text.ghosts.value_size g.V.Token.value_size in
    let items : c.push.new.self ≡ p ∷ [] = pushed_last c.push.result c.if-is_err.ensures.value c.push.ensures.ok ∙ ap (λ xs. xs ++ p ∷ []) c.with_room-items.ensures in
    record {
      within = c.in-Some.ensures.front.0;
      list = rw items c.in-Some.ensures.front.1;
      distinct = rw items (tt, tt);
      size = (let e = ap (items_size f) items in omega (arith, e, c.in-Some.ensures.size));
    }

pub loop-used-preserved : goal.loop-used-preserved
loop-used-preserved g c =
    let self = c.args.self.now in
    let bytes = c.args.bytes.now in
    let used = c.loop-used.used in
    let found = c.in-Some-pair_in_front.found in
    let p = found.0 in
    let word = g.F.Pairing.word_of in
    let value = g.F.Pairing.value_of in
    let P = IsPairText word value (word_text.ghosts.means self.word) (g.V.Token.means self.value) self.delimiter in
    let R = IsPairText word value (SpellsWord self.words.controller) (g.B.MakeToken.texts self.values) self.delimiter in
    let f = pair_size word value word_text.ghosts.value_size g.V.Token.value_size in
    let push = c.push-in-loop-used in
    let items : push.new.self ≡ c.loop-used.items ++ p ∷ [] = pushed_last push.result c.if-is_err-2.ensures.value push.ensures.ok in
    let front = rw c.split_at.ensures.back at c.in-Some-pair_in_front.ensures.front in
    let text = take found.1 (drop (used + 1) bytes) in
    let pair : R text p = pair_as word value self.delimiter (word_text.ghosts.means c.start-word.result) (SpellsWord self.words.controller) (g.V.Token.means c.start-value.result) (g.B.MakeToken.texts self.values)
    (λ r v. (c.start-word.ensures.spells.is r v).0) (λ r v. (c.start-value.ensures.spells.is r v).0) text p front.1 in
    let lacks = rw g.met.F.Pairing.keyed at (not_among (g.F.Pair.HasKey.key_of p) (map g.F.Pair.HasKey.key_of c.loop-used.items) (sym push.ensures.repeated ∙ pushed_new push.result c.if-is_err-2.ensures.value)) in
    record {
      within = omega (arith, c.in-Some-pair_in_front.ensures.front.0, c.split_at.ensures.back_len, c.loop-used-test.true);
      list = rw (items, front_longer bytes used found.1 self.separator c.loop-used-test.true c.if-bytes-used.true) (list_longer self.separator P R (take used bytes) text c.loop-used.items p c.loop-used.invariant.list pair);
      distinct = rw items (words_push word c.loop-used.items p c.loop-used.invariant.distinct lacks);
      size = omega (arith, size_pushed f push.new.self c.loop-used.items p items, c.loop-used.invariant.size, c.in-Some-pair_in_front.ensures.size, c.start-word.ensures.size, c.start-value.ensures.size);
    }

pub returns-clause-front : goal.returns-clause-front
returns-clause-front g c =
    let first = c.is_first_word.ensures c.if-not-is_first_word.false in
    (c.loop-used.invariant.within, rw (first.0, first.1) ((c.loop-used.items, refl, c.loop-used.invariant.list), c.loop-used.invariant.distinct))
