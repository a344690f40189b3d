-- The whole run on no equations at all: one close, and the process is complete.
use Rattle.std.specs.Prelude.{List, [], ◌∷◌, refl}
use Rattle.std.proofs.Common.{arith}
use Rattle.kb_lemmas.proofs.Membership.{none_in}
use Rattle.kb_term.specs.Signature.{Problem}
use Rattle.kb_label.specs.Names.{Name}
use Rattle.mkb_model.specs.Plain.{Plain}
use Rattle.mkb_model.specs.Effects.{effect}
use Rattle.mkb_model.specs.Proposals.{IsClosedOn}
use Rattle.mkb_model.specs.Journals.{Moment, IsFirstJob, opening, in_flight, landed, IsTaking, IsCommitting, IsFinishing, After, Alone, stated}
use Rattle.kb_node.specs.declared.job.Job.TheVariants.{Close}
use Rattle.mkb_model.specs.declared.proposed.Proposed.TheVariants.{Closed}
use Rattle.mkb_model.specs.declared.entry.Effect.TheVariants.{Made}
use Rattle.mkb_model.specs.declared.entry.Entry.{Entry}
use Rattle.mkb_model.specs.declared.entry.Entry.TheVariants.{Take, Commit}

abbrev no_equations : Problem
no_equations = record { signature = []; equations = [] }

abbrev e : Name
e = []

abbrev before : Plain
before = opening no_equations (stated 100)

abbrev taken : Plain
taken = in_flight 1 1 (Close e) before

abbrev ended : Plain
ended = landed 1 (effect taken (Closed e))

no_equations_closed : IsClosedOn before e
no_equations_closed = record { overlaps = []; all = refl; joined = λ o c. none_in c; formed = λ h x c. none_in c }

no_equations_take : IsTaking IsFirstJob [] before 1 1 (Close e) taken
no_equations_take = record {
  no_verdict = refl;
  no_halt = refl;
  worker_least = omega arith;
  worker_most = omega arith;
  next_number = refl;
  picked = refl;
  leads_to = refl;
}

abbrev first_moment : Moment
first_moment = record { board = before; entry = Take 1 1 (Close e) }

no_equations_finish : IsFinishing (first_moment ∷ []) taken 1 1 (Close e) (Closed e)
no_equations_finish = record {
  no_verdict = refl;
  flying = (0, omega arith, refl);
  before = before;
  taken = (0, omega arith, refl);
  proposed = (refl, no_equations_closed);
}

no_equations_commit : IsCommitting (first_moment ∷ []) taken 1 1 (Made (Closed e)) ended
no_equations_commit = record {
  job = Close e;
  proposal = Closed e;
  finishing = no_equations_finish;
  acts = refl;
  names_effect = refl;
  leads_to = refl;
}

abbrev journal : List Entry
journal = Take 1 1 (Close e) ∷ Commit 1 1 (Made (Closed e)) ∷ []

no_equations_after : After no_equations (stated 100) journal ended
no_equations_after = (record { board = taken; entry = Commit 1 1 (Made (Closed e)) } ∷ first_moment ∷ [], refl, ((refl, no_equations_take), no_equations_commit))

no_equations_alone : Alone no_equations (stated 100) journal ended
no_equations_alone = record { legal = no_equations_after; in_turn = refl; ended = refl }
