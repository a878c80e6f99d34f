use Rattle.std.proofs.Common.{◌<◌, Option, length, sym, ap, subst, arith}
use Rattle.std.specs.Prelude.{IfSome}
use Rattle.cg_value.specs.Kind.{IsReadForm, IsWriteForm}
use Rattle.cg_value.specs.Table.{Row, rows}
use Rattle.cg_value.specs.TableLaws.{row_is, row_ok, rows_count}
use Rattle.cg_value.specs.declared.kind.ReadForm.{ReadForm}
use Rattle.cg_value.specs.declared.kind.WriteForm.{WriteForm}
use Rattle.cg_value.proofs.table.row_at.Goals as goal

pub kind_read-requires : goal.kind_read-requires
kind_read-requires c =
    let within = rw c.rows_in-all.ensures at c.if-place-all.true in
    let place : c.args.place < length (rows c.args.profile) = omega (arith, within, rows_count c.args.profile c.args.table.now c.requires) in
    let is = row_is c.args.profile c.args.table.now c.requires c.args.place _ within in
    rw c.rows_in-all.ensures (subst (λ (o : Option ReadForm). IfSome o IsReadForm) (sym (ap (λ (r : Row). r.reads) is)) (row_ok c.args.profile c.args.place place).0)

pub kind_written-requires : goal.kind_written-requires
kind_written-requires c =
    let within = rw c.rows_in-all.ensures at c.if-place-all.true in
    let place : c.args.place < length (rows c.args.profile) = omega (arith, within, rows_count c.args.profile c.args.table.now c.requires) in
    let is = row_is c.args.profile c.args.table.now c.requires c.args.place _ within in
    rw c.rows_in-all.ensures (subst (λ (o : Option WriteForm). IfSome o IsWriteForm) (sym (ap (λ (r : Row). r.writes) is)) (row_ok c.args.profile c.args.place place).1)

pub returns-then-place-all : goal.returns-then-place-all
returns-then-place-all c =
    let within = rw c.rows_in-all.ensures at c.if-place-all.true in
    let place : c.args.place < length (rows c.args.profile) = omega (arith, within, rows_count c.args.profile c.args.table.now c.requires) in
    let is = row_is c.args.profile c.args.table.now c.requires c.args.place _ within in
    (place, rw (c.kind_read.ensures, c.kind_written.ensures, c.rows_in-all.ensures) is)

pub returns-else-place-all : goal.returns-else-place-all
returns-else-place-all c =
    let past = rw c.rows_in-all.ensures at c.if-place-all.false in
    omega (arith, past, rows_count c.args.profile c.args.table.now c.requires)
