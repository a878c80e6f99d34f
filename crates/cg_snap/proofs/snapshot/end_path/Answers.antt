use Rattle.std.proofs.Common.{◌≡◌, inl, inr}
use Rattle.cg_snap.proofs.States.{named_path, newline_refused}
use Rattle.cg_snap.proofs.snapshot.end_path.Goals as goal

pub returns-then-byte-eq10-clause-taken : goal.returns-then-byte-eq10-clause-taken
returns-then-byte-eq10-clause-taken c = λ p es h i at.
    (h, (at, newline_refused c.args.profile c.args.begun.now.items c.args.present.now p es c.args.byte c.if-byte-eq10.true i h))

pub returns-in-Err-clause-taken : goal.returns-in-Err-clause-taken
returns-in-Err-clause-taken c = λ p es h i at.
    let nul : c.args.byte ≡ 0 = elim c.requires.ends [ inl e ↦ e | inr e ↦ absurd (c.if-byte-eq10.false e) ] in
    rw nul (h, (at, c.in-Err.ensures.after p es h i))

pub returns-then-is_full-clause-taken : goal.returns-then-is_full-clause-taken
returns-then-is_full-clause-taken c = λ p es h i at.
    let nul : c.args.byte ≡ 0 = elim c.requires.ends [ inl e ↦ e | inr e ↦ absurd (c.if-byte-eq10.false e) ] in
    let next = (c.in-Ok.ensures.after p es h i).1 in
    rw nul (h, (at, next, (rw c.if-is_full.true at (c.is_full.ensures c.args.profile p es h)) next))

pub returns-clause-taken : goal.returns-clause-taken
returns-clause-taken c = λ p es h i at.
    let nul : c.args.byte ≡ 0 = elim c.requires.ends [ inl e ↦ e | inr e ↦ absurd (c.if-byte-eq10.false e) ] in
    let kind = c.in-Ok.ensures.after p es h i in
    rw nul (c.begin_line.ensures.begun c.args.profile p es h i kind.0 kind.1)

pub returns-clause-few : goal.returns-clause-few
returns-clause-few c = λ p es h i.
    let nul : c.args.byte ≡ 0 = elim c.requires.ends [ inl e ↦ e | inr e ↦ absurd (c.if-byte-eq10.false e) ] in
    rw nul (rw c.if-is_full.false at (c.is_full.ensures c.args.profile p es h))

pub returns-clause-nul : goal.returns-clause-nul
returns-clause-nul c = elim c.requires.ends [ inl e ↦ e | inr e ↦ absurd (c.if-byte-eq10.false e) ]

pub begin_line-requires-clause-readable : goal.begin_line-requires-clause-readable
begin_line-requires-clause-readable c =
    let k = c.in-Ok.ensures.kind in
    record { good = named_path c.args.begun.now.items c.requires.path k.0; profile = c.args.profile; reads_at = k.1 }
