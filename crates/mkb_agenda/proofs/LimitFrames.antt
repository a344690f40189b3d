-- What a commit that comes to a limit leaves; and of which node the facts of a commit are.
use Rattle.std.proofs.Common.{ℕ, ◌≡◌, ◌+◌, refl, sym, ap, ap₂, subst, ◌∙◌, List, [], ◌∷◌, Bool, true, false, cond, map, Contains, Option, Some, None, sum_by}
use Rattle.std.specs.Prelude.{◌&&◌, ◌||◌, not}
use Rattle.std.specs.List.{list_any}
use Rattle.std.specs.Option.{option_map_or}
use Rattle.kb_lemmas.proofs.Booleans.{or_nothing}
use Rattle.kb_label.specs.Names.{Name, has, join}
use Rattle.kb_label.proofs.Members.{has-join, has-filter}
use Rattle.kb_label.specs.declared.verdict.Reason.{Reason}
use Rattle.kb_node.specs.declared.node.NodeId.{NodeId}
use Rattle.kb_node.specs.declared.job.Fact.{Fact}
use Rattle.kb_node.specs.declared.job.Job.{Job}
use Rattle.kb_node.specs.declared.job.Job.TheVariants.{Reduce, Orient, Overlap, Close}
use Rattle.mkb_model.specs.Jobs.{process_of}
use Rattle.mkb_model.specs.Plain.{Plain, GivenUp, cost, weight, weight_by, is_over, node_size, equations_of, constraints_of, rule_sizes, counted_rules}
use Rattle.mkb_model.specs.declared.settings.Selection.{Selection}
use Rattle.mkb_model.specs.declared.settings.Selection.TheVariants.{Stated, Size as BySize}
use Rattle.mkb_model.specs.DueJobs.{is_working, is_due, is_work_due, is_close_due}
use Rattle.mkb_model.specs.Effects.{counted, give_up, not_over, reason_eq, effect_label, limit_of, applied}
use Rattle.mkb_model.specs.Proposals.{Proposes}
use Rattle.mkb_model.specs.declared.proposed.Proposed.{Proposed}
use Rattle.mkb_model.specs.declared.proposed.Proposed.TheVariants.{Facts}
use Rattle.mkb_rules.specs.Applying.{applied_as}
use Rattle.mkb_rules.specs.declared.applied.Applied.TheVariants.{Done, Over}
use Rattle.mkb_pick.specs.Listings.{Listed}
use Rattle.mkb_pick.specs.Tasks.{job_of, work_of}
use Rattle.mkb_pick.proofs.Viewed.{process_again}
use Rattle.mkb_agenda.specs.Agendas.{IsDueJob, IsListedAs}
use Rattle.mkb_agenda.specs.Following.{IsCommitOn}
use Rattle.mkb_agenda.specs.declared.following.Commit.{Commit}
use Rattle.mkb_agenda.proofs.DueJobs.{due_is, is_listed_due}

-- ---- a limit

-- the board where these processes have given up
abbrev stopped_at : Plain → Reason → List Name → Plain
stopped_at b r l = record (counted (give_up r l b)) { flight = [] }

module _ (b : Plain) (r : Reason) (l : List Name) (p : Name) (h : has l p ≡ false) where
  not_in : has (not_over b l) p ≡ false
  not_in = has-filter (λ q. not (is_over b q)) l p ∙ ap (λ z. not (is_over b p) && z) h ∙ none (not (is_over b p))
    where
      none : (z : Bool) → (z && false) ≡ false
      none true = refl
      none false = refl

  same_names : (g : GivenUp) (z : Bool) → has (cond z (record g { names = join g.names (not_over b l) }) g).names p ≡ has g.names p
  same_names g true = has-join g.names (not_over b l) p ∙ ap (λ z. has g.names p || z) not_in ∙ sym (or_nothing (has g.names p))
  same_names g false = refl

  same_over : (gs : List GivenUp) → list_any (λ (g : GivenUp). has g.names p) (map (λ (g : GivenUp). cond (reason_eq g.reason r) (record g { names = join g.names (not_over b l) }) g) gs) ≡ list_any (λ (g : GivenUp). has g.names p) gs
  same_over [] = refl
  same_over (g ∷ gs) = ap₂ (λ z t. z || t) (same_names g (reason_eq g.reason r)) (same_over gs)

  works_same : is_working (stopped_at b r l) p ≡ is_working b p
  works_same = ap (λ z. has b.living p && not z) (same_over b.over)

  due_same : (j : Job) → process_of j ≡ p → is_due (stopped_at b r l) j ≡ is_due b j
  due_same (Reduce q n) e = ap (λ z. z && is_work_due b (Reduce q n)) (subst {A = Name} (λ s. is_working (stopped_at b r l) s ≡ is_working b s) (sym e) works_same)
  due_same (Orient q n) e = ap (λ z. z && is_work_due b (Orient q n)) (subst {A = Name} (λ s. is_working (stopped_at b r l) s ≡ is_working b s) (sym e) works_same)
  due_same (Overlap q a d) e = ap (λ z. z && is_work_due b (Overlap q a d)) (subst {A = Name} (λ s. is_working (stopped_at b r l) s ≡ is_working b s) (sym e) works_same)
  due_same (Close q) e = ap (λ z. z && is_close_due b q) (subst {A = Name} (λ s. is_working (stopped_at b r l) s ≡ is_working b s) (sym e) works_same)

  cost_same : cost (stopped_at b r l) p ≡ cost b p
  cost_same = ap (λ (m : ℕ). (sum_by (node_size b) (equations_of b p) + rule_sizes b (constraints_of b p)) + m) (go b.settings.selection)
    where
      go : (s : Selection) → rule_sizes (stopped_at b r l) (counted_rules s (stopped_at b r l) p) ≡ rule_sizes b (counted_rules s b p)
      go Stated = refl
      go BySize = refl

  weight_same : (j : Job) → weight (stopped_at b r l) j ≡ weight b j
  weight_same j = go b.settings.selection
    where
      go : (s : Selection) → weight_by s (stopped_at b r l) j ≡ weight_by s b j
      go Stated = refl
      go BySize = refl

  stays_as_listed : (ps : List Listed) → IsListedAs b p p ps → IsListedAs (stopped_at b r l) p p ps
  stays_as_listed ps m = record {
    listed = λ c s. (λ k. (works_same ∙ ((m.listed c s).0 k).0, ((m.listed c s).0 k).1 ∙ sym cost_same, ((m.listed c s).0 k).2), λ k. (m.listed c s).1 (sym works_same ∙ k.0, k.1 ∙ cost_same, k.2));
    jobs = λ j w e. (
      λ k. (there (job_of p (work_of j)) (process_again p (work_of j)) ((m.jobs j w e).0 k).0, ((m.jobs j w e).0 k).1 ∙ sym (weight_same j)),
      λ k. (m.jobs j w e).1 (back (job_of p (work_of j)) (process_again p (work_of j)) k.0, k.1 ∙ weight_same j),
    );
  }
    where
      there : (j : Job) → process_of j ≡ p → IsDueJob b j → IsDueJob (stopped_at b r l) j
      there j e k = is_listed_due (stopped_at b r l) j (due_same j e ∙ (due_is b j k).0) (due_is b j k).1

      back : (j : Job) → process_of j ≡ p → IsDueJob (stopped_at b r l) j → IsDueJob b j
      back j e k = is_listed_due b j (sym (due_same j e) ∙ (due_is (stopped_at b r l) j k).0) (due_is (stopped_at b r l) j k).1

module _ (b c : Plain) (x : Commit) (k : IsCommitOn b x c) where
  -- a process that the effect label does not name is listed on the later board as on the earlier one
  pub over_leaves : (r : Reason) → x.applied ≡ Over r → (p : Name) → has x.names.now p ≡ false → (ps : List Listed) → IsListedAs b p p ps → IsListedAs c p p ps
  over_leaves r e p h ps l = go (limit_of b k.commit.proposal) refl
    where
      go : (o : Option Reason) → limit_of b k.commit.proposal ≡ o → IsListedAs c p p ps
      go None is = absurd (let f : Done ≡ Over r = sym (k.applied ∙ ap applied_as is) ∙ e in cc)
      go (Some s) is = subst {A = Plain} (λ z. IsListedAs z p p ps)
          (sym (k.makes ∙ ap (λ (o : Option Reason). record (counted (option_map_or (λ (t : Reason). give_up t (effect_label b k.commit.proposal) b) o (applied b k.commit.proposal))) { flight = [] }) is))
          (stays_as_listed b s (effect_label b k.commit.proposal) p (sym (ap (λ (m : List Name). has m p) k.names) ∙ h) ps l)

  -- all facts of a commit are of one node
  pub facts_of_one_node : (fs : List Fact) → x.proposal.now ≡ Facts fs → (f g : Fact) → Contains fs f → Contains fs g → f.node ≡ g.node
  facts_of_one_node fs e f g here there = same k.commit.finishing.before k.commit.job (subst {A = Proposed} (Proposes k.commit.finishing.before k.commit.job) (sym k.proposal ∙ e) k.commit.finishing.proposed)
    where
      node : ℕ → NodeId
      node m = record { 0 = m }

      same : (before : Plain) (j : Job) → Proposes before j (Facts fs) → f.node ≡ g.node
      same before (Reduce q n) h = ap node (h.2.at_node f here ∙ sym (h.2.at_node g there))
      same before (Orient q n) h = absurd h
      same before (Overlap q a d) h = absurd h
      same before (Close q) h = absurd h
