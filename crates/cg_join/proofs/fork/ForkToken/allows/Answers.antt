use Rattle.std.proofs.Common.{◌≡◌, IsTrue, refl}
use Rattle.cg_join.specs.ForkLaws.{first_begins, other_begins, other_may}
use Rattle.cg_join.proofs.fork.ForkToken.allows.Goals.{else-self-via-then-self+else-byte-self, else-self-via-else-self}
use Rattle.cg_join.proofs.fork.ForkToken.allows.Goals as goal

pub returns-then-byte-self : goal.returns-then-byte-self
returns-then-byte-self g c =
    let now = c.args.self.now in
    let texts = g.S.MakeToken.texts now.start in
    let some = g.met.S.MakeToken.some_text now.start in
    (λ h. rw c.if-byte-self.true (other_may g.A.Token.means g.B.Token.means texts now.byte now.begins now.allowed now.token c.if-self.true now.free some), λ h. refl)

pub returns-in-Left : goal.returns-in-Left
returns-in-Left g c =
    let now = c.args.self.now in
    let not : IsTrue now.allowed → c.args.byte ≡ now.byte → ⊥ = λ may e. elim c.else-self.branch [
      | else-self-via-then-self+else-byte-self w ↦ w.if-byte-self.false e
      | else-self-via-else-self w ↦ absurd (let f = w.if-self.false in cc)
    ] in
    let is = first_begins g.A.Token.means g.B.Token.means (g.S.MakeToken.texts now.start) now.byte now.begins now.allowed c.in-Left.token c.args.byte not in
    (λ h. rw c.in-Left.is (is.0 (c.allows.ensures.0 h)), λ h. c.allows.ensures.1 (is.1 (rw c.in-Left.is at h)))

pub returns-in-Right : goal.returns-in-Right
returns-in-Right g c =
    let now = c.args.self.now in
    let is = other_begins g.A.Token.means g.B.Token.means (g.S.MakeToken.texts now.start) now.allowed c.in-Right.token c.args.byte in
    (λ h. rw c.in-Right.is (is.0 (c.allows-in-Right.ensures.0 h)), λ h. c.allows-in-Right.ensures.1 (is.1 (rw c.in-Right.is at h)))
