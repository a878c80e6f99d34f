use Rattle.std.proofs.Common.{sym, subst}
use Rattle.cg_value.specs.EntryRefusal.{IsEntryFault}
use Rattle.cg_c.specs.Json.{IsLineOf}
use Rattle.cg_c.proofs.Entries.{told_no_line}
use Rattle.cg_c.proofs.json.value_line.Goals as goal

pub returns-in-Err : goal.returns-in-Err
returns-in-Err c name text named file =
    let fault : IsEntryFault c.args.profile c.args.path.now c.args.value c.in-Err.why =
    subst (λ path. IsEntryFault c.args.profile path c.args.value c.in-Err.why) c.in_ok-path.ensures.items c.in-Err.ensures in
    subst (λ line. IsLineOf c.args.profile c.args.path.now c.args.value line) (sym c.no_line.ensures)
    (told_no_line c.args.profile c.args.path.now name text c.args.value named file c.in-Err.why fault)
