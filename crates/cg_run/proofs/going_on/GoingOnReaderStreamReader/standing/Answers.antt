use Rattle.std.proofs.Common.{None, inr, refl, subst}
use Rattle.cg_value.specs.declared.profile.Profile.{Profile}
use Rattle.cg_snap.specs.GoingOn.{IsPassed, IsWanted}
use Rattle.cg_snap.specs.declared.limits.Limits.{Limits}
use Rattle.cg_run.proofs.GoingOn.{option_as, is_cut_on}
use Rattle.cg_run.proofs.going_on.GoingOnReaderStreamReader.standing.Goals as goal

pub returns-clause-place : goal.returns-clause-place
returns-clause-place g c = λ form p h.
    option_as c.record_place.result _ _ _ (λ passed what. inr (subst (λ (q : Profile × Limits). IsPassed (q.0) (q.1) p None) h.form_is passed, refl)) (c.record_place.ensures p h.parts h.stands)

pub returns-clause-wanted : goal.returns-clause-wanted
returns-clause-wanted g c = λ form p h. subst (λ (q : Profile × Limits). IsWanted (q.0) (q.1) p c.wanted.result) h.form_is (c.wanted.ensures p h.parts h.stands)

pub returns-clause-cut : goal.returns-clause-cut
returns-clause-cut g c = λ form p parts h.
    is_cut_on g.T.Teller.parts g.T.Teller.keeps g.T.Teller.all g.T.Teller.outcome (form.0) (form.1) p parts c.args.self.now h c.can_finish.result (c.can_finish.ensures p h.found h.taken.stands)

pub returns-clause-consumed : goal.returns-clause-consumed
returns-clause-consumed g c = λ form p h. c.offset.ensures p h.parts h.stands
