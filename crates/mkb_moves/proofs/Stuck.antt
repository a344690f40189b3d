-- A process that failed is stuck.
use Rattle.std.proofs.Common.{ℕ, ◌≡◌, ◌≢◌, refl, subst, List, true, false, ◌||◌, Some}
use Rattle.std.proofs.lemmas.Bool.{or_left}
use Rattle.kb_term.specs.Signature.{Problem, IsWithinLimits}
use Rattle.kb_term.specs.declared.origin.Found.{Found}
use Rattle.kb_term.specs.declared.origin.Found.TheVariants.{No, Variant, Strict}
use Rattle.kb_overlap.specs.Trace.{side}
use Rattle.kb_label.specs.Names.{Name, has}
use Rattle.kb_node.specs.declared.node.LabelKind.TheVariants.{E}
use Rattle.mkb_model.specs.Plain.{Plain, other, rule_kind, is_equation, is_rule, known}
use Rattle.mkb_model.specs.DueJobs.{is_usable}
use Rattle.mkb_model.specs.Sleeping.{is_failed}
use Rattle.mkb_model.specs.Verdicts.{verdict, HasFailed}
use Rattle.kb_label.specs.declared.verdict.Verdict.TheVariants.{AllFailed}
use Rattle.mkb_model.specs.Journals.{Moment, IsPossibleRun, IsFreeJob}
use Rattle.mkb_model.specs.Ready.{IsOn}
use Rattle.mkb_model.specs.declared.settings.Settings.{Settings}
use Rattle.mkb_model.proofs.Lists.{clash}
use Rattle.mkb_model.proofs.commits.Roles.{equation-no_rule}
use Rattle.mkb_model.proofs.commits.Adding.{rule_role}
use Rattle.mkb_model.proofs.runs.Meanings.{has_failed, verdict_means}
use Rattle.mkb_model.proofs.closing.LeftAlone.{Rests, rules_in, known_holds}
use Rattle.mkb_model.proofs.closing.RestInRuns.{resting_run}
use Rattle.mkb_model.proofs.runs.KnownFacts.{facts_hold}
use Rattle.mkb_model.proofs.closing.NormalTerms.{rewrites_encompassed}
use Rattle.mkb_model.proofs.runs.AllFine.{goes}
use Rattle.mkb_moves.specs.Stuck.{IsNormalNode, IsStuck}
use Rattle.mkb_moves.proofs.Sight.{equations_are}
use Rattle.mkb_moves.proofs.Refused.{refused_unorientable}

-- of an equation no usable redex is known only where none is
no_redex : (b : Plain) (p : Name) (n w : ℕ) (v : Found) → is_equation b p n ≡ true → is_usable b p n w v ≡ false → v ≡ No
no_redex b p n w No on h = refl
no_redex b p n w Variant on h = clash (or_left (is_equation b p n) (is_rule b p (record { node = n; dir = other w })) on) h
no_redex b p n w Strict on h = clash refl h

stuck : (P : Problem) (n : Settings) (ms : List Moment) (b : Plain) (p : Name) → IsWithinLimits P → IsPossibleRun P n ms b → HasFailed b p → IsStuck b p
stuck P n ms b p within run h = record {
  some_equation = h.some_equation;
  unorientable = λ m i. refused_unorientable P n ms b run p m (h.refused m ((equations_are b p m).0 i));
  normal = λ m i. normal m ((equations_are b p m).0 i);
}
  where
    rest : Rests b p
    rest = (resting_run P n ms b run).closed p h.closed

    normal : (m : ℕ) → IsOn b.nodes p m E → IsNormalNode b p m
    normal m on pair a rule w at t there i rule_there side_is rewrites =
        let r = rules_in b p a i in
        let away : a.node ≢ m = λ e. equation-no_rule a.dir ((goes P n ms b within run).1 p m E (rule_kind a.dir) tt (rule_role a.dir) on (subst {A = ℕ} (λ z. IsOn b.nodes p z (rule_kind a.dir)) e r.1)) in
        let k = rest.reduced m w a (or_left (is_equation b p m) (is_rule b p (record { node = m; dir = 0 }) || is_rule b p (record { node = m; dir = 1 })) on) side_is r.0 r.1 away in
        let none : known b m w a ≡ Some No = subst {A = Found} (λ z. known b m w a ≡ Some z) (no_redex b p m w k.0 on k.2) k.1 in
        (known_holds b m w a No (facts_hold IsFreeJob P n ms b run) none pair there rule rule_there).0 (rewrites_encompassed rule at (side pair w) t rewrites)

pub failed_stuck : (P : Problem) (n : Settings) (ms : List Moment) (b : Plain) (p : Name) → IsWithinLimits P → IsPossibleRun P n ms b → has b.living p ≡ true → is_failed b p ≡ true → IsStuck b p
failed_stuck P n ms b p within run lives failed = stuck P n ms b p within run (has_failed b p lives failed)

-- where the verdict is that all failed, every living process is
pub all_stuck : (P : Problem) (n : Settings) (ms : List Moment) (b : Plain) (p : Name) → IsWithinLimits P → IsPossibleRun P n ms b → verdict b ≡ Some AllFailed → has b.living p ≡ true → IsStuck b p
all_stuck P n ms b p within run h lives = stuck P n ms b p within run (verdict_means b AllFailed h p lives)
