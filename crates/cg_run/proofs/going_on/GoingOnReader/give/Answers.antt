use Rattle.std.proofs.Common.{List, ℕ, ap, ◌++◌, ◌∙◌, sym}
use Rattle.cg_snap.specs.GoingOn.{told_entry}
use Rattle.cg_run.proofs.GoingOn.{count_found, give_keeps, give_text}
use Rattle.cg_run.proofs.going_on.GoingOnReader.give.Goals as goal

pub returns-clause-given : goal.returns-clause-given
returns-clause-given g c profile limits q told keeps counts behind fault =
    let first = c.in_ok-tell_entry.ensures.told told keeps in
    let second = c.in_ok-tell_left_out.ensures (told ++ told_entry c.args.found.entry) first.1 in
    let third = c.in_ok-explain_left_out.ensures profile limits q behind fault in (
      third.0,
      give_text g.T.Teller.parts g.T.Teller.keeps c.args.found c.clear.new.self.items c.tell_entry.new.text.items c.tell_left_out.new.text.items c.explain_left_out.new.text.items c.args.out.now.items c.append.new.out.items (third.0)
          c.clear.ensures.items first.0 second.0 third.1 (c.in_ok-append.ensures.added ∙ ap (λ (t : List ℕ). c.args.out.now.items ++ t) c.as_slice.ensures.value),
      third.2,
      give_keeps g.T.Teller.parts g.T.Teller.keeps c.tell_left_out.new.teller told c.args.found second.1,
      c.counted-left_out.ensures told counts ∙ sym (count_found told c.args.found),
    )
