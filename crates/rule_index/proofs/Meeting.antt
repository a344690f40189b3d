-- Left sides that meet terms fit them, or in loose walks agree with them.
use Rattle.std.proofs.Common.{ℕ, ◌≡◌, refl, true, false}
use Rattle.std.proofs.lemmas.Bool.{false≢true}
use Rattle.kb_term.specs.Tree.{Tree, Trees, variable, apply, no_trees, more_trees}
use Rattle.kb_term.specs.Substitution.{instance, instances}
use Rattle.kb_match.specs.Fitting.{Fits, FitEach}
use Rattle.rule_index.specs.Agreeing.{Agree, AgreeEach, HaveCommonInstance}
use Rattle.rule_index.proofs.Leading.{Meets, MeetEach}

mutual
  pub meets_from_fit : (l t : Tree) → Fits l t → Meets false l t
  meets_from_fit (variable n) t h = tt
  meets_from_fit (apply f ls) (variable x) h = absurd h
  meets_from_fit (apply f ls) (apply g ts) h = (h.0, meet_from_fits ls ts h.1)

  meet_from_fits : (ls ts : Trees) → FitEach ls ts → MeetEach false ls ts
  meet_from_fits no_trees no_trees h = tt
  meet_from_fits no_trees (more_trees t ts) h = absurd h
  meet_from_fits (more_trees l ls) no_trees h = absurd h
  meet_from_fits (more_trees l ls) (more_trees t ts) h = (meets_from_fit l t h.0, meet_from_fits ls ts h.1)

mutual
  pub fit_from_meeting : (l t : Tree) → Meets false l t → Fits l t
  fit_from_meeting (variable n) t h = tt
  fit_from_meeting (apply f ls) (variable x) h = absurd (false≢true h)
  fit_from_meeting (apply f ls) (apply g ts) h = (h.0, fits_from_meetings ls ts h.1)

  fits_from_meetings : (ls ts : Trees) → MeetEach false ls ts → FitEach ls ts
  fits_from_meetings no_trees no_trees h = tt
  fits_from_meetings no_trees (more_trees t ts) h = absurd h
  fits_from_meetings (more_trees l ls) no_trees h = absurd h
  fits_from_meetings (more_trees l ls) (more_trees t ts) h = (fit_from_meeting l t h.0, fits_from_meetings ls ts h.1)

mutual
  pub meets_from_agreement : (l t : Tree) → Agree l t → Meets true l t
  meets_from_agreement (variable n) t h = tt
  meets_from_agreement (apply f ls) (variable x) h = refl
  meets_from_agreement (apply f ls) (apply g ts) h = (h.0, meet_from_agreements ls ts h.1)

  meet_from_agreements : (ls ts : Trees) → AgreeEach ls ts → MeetEach true ls ts
  meet_from_agreements no_trees no_trees h = tt
  meet_from_agreements no_trees (more_trees t ts) h = absurd h
  meet_from_agreements (more_trees l ls) no_trees h = absurd h
  meet_from_agreements (more_trees l ls) (more_trees t ts) h = (meets_from_agreement l t h.0, meet_from_agreements ls ts h.1)

mutual
  pub agreement_from_meeting : (l t : Tree) → Meets true l t → Agree l t
  agreement_from_meeting (variable n) t h = tt
  agreement_from_meeting (apply f ls) (variable x) h = tt
  agreement_from_meeting (apply f ls) (apply g ts) h = (h.0, agreements_from_meetings ls ts h.1)

  agreements_from_meetings : (ls ts : Trees) → MeetEach true ls ts → AgreeEach ls ts
  agreements_from_meetings no_trees no_trees h = tt
  agreements_from_meetings no_trees (more_trees t ts) h = absurd h
  agreements_from_meetings (more_trees l ls) no_trees h = absurd h
  agreements_from_meetings (more_trees l ls) (more_trees t ts) h = (agreement_from_meeting l t h.0, agreements_from_meetings ls ts h.1)

-- terms with a common instance agree
mutual
  agree_of : (m k : ℕ → Tree) (s t : Tree) → instance m s ≡ instance k t → Agree s t
  agree_of m k (variable n) t e = tt
  agree_of m k (apply f ss) (variable n) e = tt
  agree_of m k (apply f ss) (apply g ts) e = (cc, agree_each m k ss ts (cc))

  agree_each : (m k : ℕ → Tree) (ss ts : Trees) → instances m ss ≡ instances k ts → AgreeEach ss ts
  agree_each m k no_trees no_trees e = tt
  agree_each m k no_trees (more_trees t ts) e = absurd (cc)
  agree_each m k (more_trees s ss) no_trees e = absurd (cc)
  agree_each m k (more_trees s ss) (more_trees t ts) e = (agree_of m k s t (cc), agree_each m k ss ts (cc))

pub agree_from_instance : (s t : Tree) → HaveCommonInstance s t → Agree s t
agree_from_instance s t (m, k, e) = agree_of m k s t e
