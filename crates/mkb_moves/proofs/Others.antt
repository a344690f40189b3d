-- A process that the effect label does not name is left alone.
use Rattle.std.proofs.Common.{ℕ, ◌≡◌, sym, ap, ◌∙◌, subst, List, [], ◌∷◌, Bool, true, false, cond}
use Rattle.std.specs.Prelude.{IsFalse}
use Rattle.kb_term.specs.Signature.{Problem}
use Rattle.kb_label.specs.Names.{Name, has}
use Rattle.kb_label.proofs.Members.{name_eq-refl}
use Rattle.kb_node.specs.declared.node.LabelKind.TheVariants.{E, X}
use Rattle.mkb_model.specs.Plain.{Plain, label_at}
use Rattle.mkb_model.specs.Effects.{effect, effect_label, orient_label, is_dropped}
use Rattle.mkb_model.specs.Journals.{Moment, IsPossibleRun, IsCommitting, landed}
use Rattle.mkb_model.specs.declared.entry.Effect.{Effect}
use Rattle.mkb_model.specs.declared.proposed.Proposed.{Proposed}
use Rattle.mkb_model.specs.declared.proposed.Proposed.TheVariants.{Facts, Rewrite, One, Both, Refuse, Deduce, Unjoined, Closed, Limit}
use Rattle.mkb_model.specs.declared.settings.Settings.{Settings}
use Rattle.mkb_model.proofs.Lists.{clash}
use Rattle.mkb_model.proofs.commits.Roles.{has-one}
use Rattle.mkb_model.proofs.commits.Commits.{orients}
use Rattle.mkb_model.proofs.tickets.InFlight.{IsUnforked, effect_lives}
use Rattle.mkb_model.proofs.closing.RestInRuns.{Stands, stands_run}
use Rattle.mkb_model.proofs.commits.Bystanders.{IsUnmoved, unmoved_effect, role_tests}
use Rattle.mkb_moves.specs.Moves.{IsLeftAlone}
use Rattle.mkb_moves.proofs.Sight.{kept_view}

-- a process that the label does not name is not forked
not_forked : (b : Plain) (x : Proposed) (p : Name) → IsFalse (is_dropped b x) → has (effect_label b x) p ≡ false → IsUnforked x p
not_forked b (Both q n c0 c1) p acts h = λ e. clash (subst {A = Name} (λ z. has (orient_label b q n.0) z ≡ true) (sym e) (named (orients b q n.0 acts))) h
  where
    named : has (label_at b.nodes n.0 E) q ≡ true → has (orient_label b q n.0) q ≡ true
    named o = ap (λ (y : Bool). has (cond y (q ∷ []) []) q) o ∙ has-one q q ∙ name_eq-refl q
not_forked b (Facts fs) p acts h = tt
not_forked b (Rewrite n w at a kind t) p acts h = tt
not_forked b (One q n d c) p acts h = tt
not_forked b (Refuse q n) p acts h = tt
not_forked b (Deduce a c ds) p acts h = tt
not_forked b (Unjoined q ds) p acts h = tt
not_forked b (Closed q) p acts h = tt
not_forked b (Limit j cause) p acts h = tt

pub others_unmoved : (P : Problem) (n : Settings) (past : List Moment) (b : Plain) (w t : ℕ) (e : Effect) (d : Plain) → IsPossibleRun P n past b → (c : IsCommitting past b w t e d) → (p : Name) → has b.living p ≡ true → has (effect_label b c.proposal) p ≡ false
    → IsUnmoved b (effect b c.proposal) p × (has (effect b c.proposal).living p ≡ true)
others_unmoved P n past b w t e d run c p lives h = (
  unmoved_effect b c.proposal p c.acts h s.apart (λ q m o. (s.labelled.nodes m E).lives q o) lives,
  effect_lives b c.proposal p (not_forked b c.proposal p c.acts h) lives,
)
  where
    s : Stands b
    s = stands_run P n past b run

pub others_left : (P : Problem) (n : Settings) (past : List Moment) (b : Plain) (w t : ℕ) (e : Effect) (d : Plain) → IsPossibleRun P n past b → (c : IsCommitting past b w t e d) → (p : Name) → has b.living p ≡ true → has (effect_label b c.proposal) p ≡ false → IsLeftAlone b d p
others_left P n past b w t e d run c p lives h = subst {A = Plain} (λ z. IsLeftAlone b z p) (sym c.leads_to) (record {
  lives = u.1;
  same_view = kept_view b (landed t (effect b c.proposal)) p u.0.roles;
  refused = λ n. role_tests b (effect b c.proposal) p u.0.roles n X;
  overlapped = u.0.done;
  closed = u.0.closed;
  over = u.0.over;
})
  where
    u : IsUnmoved b (effect b c.proposal) p × (has (effect b c.proposal).living p ≡ true)
    u = others_unmoved P n past b w t e d run c p lives h
