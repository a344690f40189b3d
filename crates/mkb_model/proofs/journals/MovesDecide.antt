-- The moves of a run decide the run.
use Rattle.std.proofs.Common.{ℕ, ◌≡◌, refl, sym, ap, ap₂, ◌∙◌, subst, List, [], ◌∷◌}
use Rattle.kb_term.specs.Signature.{Problem, IsWithinLimits}
use Rattle.kb_rewrite.specs.NormalForm.{HoldVariables}
use Rattle.kb_label.specs.Names.{Name}
use Rattle.kb_node.specs.declared.job.Job.{Job}
use Rattle.mkb_model.specs.Jobs.{process_of}
use Rattle.mkb_model.specs.Plain.{Plain, rules_at, rules_of}
use Rattle.mkb_model.specs.Effects.{effect, effect_entry, is_dropped}
use Rattle.mkb_model.specs.Proposals.{Proposes}
use Rattle.mkb_model.specs.Journals.{Moment, move_of, moves_of, Follows, IsPossibleRun, IsFreeJob, IsFinishing, IsCommitting, IsDropping, in_flight, landed}
use Rattle.mkb_model.specs.declared.proposed.Proposed.{Proposed}
use Rattle.mkb_model.specs.declared.entry.Ticket.{Ticket}
use Rattle.mkb_model.specs.declared.entry.Effect.{Effect}
use Rattle.mkb_model.specs.declared.entry.Entry.{Entry}
use Rattle.mkb_model.specs.declared.entry.Entry.TheVariants.{Take, Commit, Drop, Abandon, Halt}
use Rattle.mkb_model.proofs.Lists.{clash}
use Rattle.mkb_model.proofs.labels.LivingNames.{flight_numbered}
use Rattle.mkb_model.proofs.runs.AllFine.{earlier_run, states_ordered, commits_fine}
use Rattle.mkb_model.proofs.journals.OneRun.{taken_once, ticket_once}
use Rattle.mkb_model.proofs.journals.OneProposal.{one_proposal}
use Rattle.mkb_model.specs.declared.settings.Settings.{Settings}

-- the rules of each process hold their variables
pub rules_hold : (P : Problem) (n : Settings) (ms : List Moment) (c : Plain) → IsWithinLimits P → IsPossibleRun P n ms c → (p : Name) → HoldVariables (rules_at c (rules_of c p))
rules_hold P n ms c within run p rule i = ((states_ordered P n ms c within run (commits_fine P n ms c within run) p).sound.rules rule i).is_rule.holds_variables

-- what a job that was taken in a run proposes is one
pub taken_one : (P : Problem) (n : Settings) (ms : List Moment) (c : Plain) → IsWithinLimits P → IsPossibleRun P n ms c → (j : Job) (x y : Proposed) → Proposes c j x → Proposes c j y → x ≡ y
taken_one P n ms c within run j x y = one_proposal c j x y (rules_hold P n ms c within run (process_of j))

module _ (P : Problem) (n : Settings) (within : IsWithinLimits P) (past : List Moment) (b : Plain) (run : IsPossibleRun P n past b) where
  -- two ends of one ticket end one proposal of one worker's job
  record OneEnd (v w : ℕ) (i j : Job) (x y : Proposed) : Type 0 where
    worker : v ≡ w
    job : i ≡ j
    proposal : x ≡ y

  one_end : (v w t : ℕ) (i j : Job) (x y : Proposed) → IsFinishing past b v t i x → IsFinishing past b w t j y → OneEnd v w i j x y
  one_end v w t i j x y f g =
      let q = ticket_once b.flight (flight_numbered IsFreeJob P n past b run).distinct (record { number = t; worker = v; job = i }) (record { number = t; worker = w; job = j }) f.flying g.flying refl in
      let k : i ≡ j = ap (λ (z : Ticket). z.job) q in
      let e : f.before ≡ g.before = taken_once P n past b run f.before g.before v w t i j f.taken g.taken in
      let r = earlier_run IsFreeJob P n past b run (record { board = f.before; entry = Take v t i }) f.taken in
      record {
        worker = ap (λ (z : Ticket). z.worker) q;
        job = k;
        proposal = taken_one P n r.0 f.before within r.1 i x y f.proposed (subst {A = Plain} (λ z. Proposes z i y) (sym e) (subst {A = Job} (λ z. Proposes g.before z y) (sym k) g.proposed));
      }

  commits_one : (v w t : ℕ) (e d : Effect) (c a : Plain) → IsCommitting past b v t e c → IsCommitting past b w t d a → (Commit v t e ≡ Commit w t d) × (c ≡ a)
  commits_one v w t e d c a f g =
      let k = one_end v w t f.job g.job f.proposal g.proposal f.finishing g.finishing in
      (ap₂ (λ x y. Commit x t y) k.worker (f.names_effect ∙ ap (effect_entry b) k.proposal ∙ sym g.names_effect), f.leads_to ∙ ap (λ (z : Proposed). landed t (effect b z)) k.proposal ∙ sym g.leads_to)

  drops_one : (v w t : ℕ) (p q : Name) (c a : Plain) → IsDropping past b v t p c → IsDropping past b w t q a → (Drop v t p ≡ Drop w t q) × (c ≡ a)
  drops_one v w t p q c a f g =
      let k = one_end v w t f.job g.job f.proposal g.proposal f.finishing g.finishing in
      (ap₂ (λ x y. Drop x t y) k.worker (f.names_process ∙ ap process_of k.job ∙ sym g.names_process), f.leads_to ∙ sym g.leads_to)

  no_both : (v w t : ℕ) (e : Effect) (p : Name) (c a : Plain) → IsCommitting past b v t e c → IsDropping past b w t p a → ⊥
  no_both v w t e p c a f g =
      let k = one_end v w t f.job g.job f.proposal g.proposal f.finishing g.finishing in
      clash (ap (is_dropped b) k.proposal ∙ g.idle) f.acts

  pub follow_one : (e d : Entry) (c a : Plain) → Follows IsFreeJob past b e c → Follows IsFreeJob past b d a → move_of e ≡ move_of d → (e ≡ d) × (c ≡ a)
  follow_one (Take v s i) (Take w t j) c a f g h =
      let x : v ≡ w = cc in
      let y : s ≡ t = cc in
      let z : i ≡ j = cc in
      (ap (λ m. Take m s i) x ∙ ap₂ (λ m k. Take w m k) y z, f.leads_to ∙ ap (λ m. in_flight m s i b) x ∙ ap₂ (λ m k. in_flight w m k b) y z ∙ sym g.leads_to)
  follow_one (Commit v s e) (Commit w t d) c a f g h =
      let y : s ≡ t = cc in
      let r = commits_one v w t e d c a (subst {A = ℕ} (λ m. IsCommitting past b v m e c) y f) g in (ap (λ m. Commit v m e) y ∙ r.0, r.1)
  follow_one (Commit v s e) (Drop w t p) c a f g h = let y : s ≡ t = cc in absurd (no_both v w t e p c a (subst {A = ℕ} (λ m. IsCommitting past b v m e c) y f) g)
  follow_one (Drop v s p) (Commit w t d) c a f g h = let y : t ≡ s = cc in absurd (no_both w v s d p a c (subst {A = ℕ} (λ m. IsCommitting past b w m d a) y g) f)
  follow_one (Drop v s p) (Drop w t q) c a f g h =
      let y : s ≡ t = cc in
      let r = drops_one v w t p q c a (subst {A = ℕ} (λ m. IsDropping past b v m p c) y f) g in (ap (λ m. Drop v m p) y ∙ r.0, r.1)
  follow_one (Abandon v s) (Abandon w t) c a f g h =
      let y : s ≡ t = cc in
      let q = ticket_once b.flight (flight_numbered IsFreeJob P n past b run).distinct (record { number = s; worker = v; job = f.job }) (record { number = t; worker = w; job = g.job }) f.flying g.flying y in
      (ap₂ (λ m k. Abandon m k) (ap (λ (z : Ticket). z.worker) q) y, f.leads_to ∙ ap (λ m. landed m b) y ∙ sym g.leads_to)
  follow_one Halt Halt c a f g h = (refl, f.1 ∙ sym g.1)
  follow_one (Take v s i) (Commit w t d) c a f g h = absurd (cc)
  follow_one (Take v s i) (Drop w t d) c a f g h = absurd (cc)
  follow_one (Take v s i) (Abandon w t) c a f g h = absurd (cc)
  follow_one (Take v s i) Halt c a f g h = absurd (cc)
  follow_one (Commit v s e) (Take w t j) c a f g h = absurd (cc)
  follow_one (Commit v s e) (Abandon w t) c a f g h = absurd (cc)
  follow_one (Commit v s e) Halt c a f g h = absurd (cc)
  follow_one (Drop v s p) (Take w t j) c a f g h = absurd (cc)
  follow_one (Drop v s p) (Abandon w t) c a f g h = absurd (cc)
  follow_one (Drop v s p) Halt c a f g h = absurd (cc)
  follow_one (Abandon v s) (Take w t j) c a f g h = absurd (cc)
  follow_one (Abandon v s) (Commit w t d) c a f g h = absurd (cc)
  follow_one (Abandon v s) (Drop w t q) c a f g h = absurd (cc)
  follow_one (Abandon v s) Halt c a f g h = absurd (cc)
  follow_one Halt (Take w t j) c a f g h = absurd (cc)
  follow_one Halt (Commit w t d) c a f g h = absurd (cc)
  follow_one Halt (Drop w t q) c a f g h = absurd (cc)
  follow_one Halt (Abandon w t) c a f g h = absurd (cc)

-- runs with the same moves are the same run
pub moves_decide : (P : Problem) (n : Settings) → IsWithinLimits P → (ms ns : List Moment) (c d : Plain) → IsPossibleRun P n ms c → IsPossibleRun P n ns d → moves_of ms ≡ moves_of ns → (ms ≡ ns) × (c ≡ d)
moves_decide P n within [] [] c d run other h = (refl, run ∙ sym other)
moves_decide P n within [] (k ∷ ns) c d run other h = absurd (cc)
moves_decide P n within (m ∷ ms) [] c d run other h = absurd (cc)
moves_decide P n within (m ∷ ms) (k ∷ ns) c d (run, f) (other, g) h =
    let first : move_of m.entry ≡ move_of k.entry = cc in
    let rest : moves_of ms ≡ moves_of ns = cc in
    let r = moves_decide P n within ms ns m.board k.board run other rest in
    let g' : Follows IsFreeJob ms m.board k.entry d = subst {A = List Moment} (λ zs. Follows IsFreeJob zs m.board k.entry d) (sym r.0) (subst {A = Plain} (λ z. Follows IsFreeJob ns z k.entry d) (sym r.1) g) in
    let s = follow_one P n within ms m.board run m.entry k.entry c d f g' first in
    (ap₂ {C = List Moment} (λ z zs. z ∷ zs) (ap₂ {C = Moment} (λ z e. record { board = z; entry = e }) r.1 s.0) r.0, s.1)
