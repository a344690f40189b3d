-- The whole run on one equation a == b: a fork, an overlap without pairs, and a close.
use Rattle.std.specs.Prelude.{ℕ, zero, suc, ◌<◌, List, [], ◌∷◌, ◌++◌, Bool, true, false, ◌≡◌, refl, Contains, Option, Some, None, map, slice_index_or}
use Rattle.std.proofs.Common.{arith, ap, sym, subst}
use Rattle.kb_term.specs.Tree.{Tree, variable, apply}
use Rattle.kb_term.specs.Position.{subtree_at}
use Rattle.kb_term.specs.Substitution.{instance}
use Rattle.kb_term.specs.Rule.{Rule}
use Rattle.kb_lpo.specs.PathOrder.{LpoGreater, IsAbove, argument_equal, argument_greater, symbol_greater, arguments_greater}
use Rattle.kb_rewrite.specs.NormalForm.{NormalisesTo, form, StrategyStep, IsNormal}
use Rattle.kb_cert.specs.Family.{Orders}
use Rattle.kb_linear.specs.Interpretations.{interpretations}
use Rattle.kb_kbo.specs.Orders.{kbo_orders}
use Rattle.kb_term.specs.Pair.{term_limit}
use Rattle.kb_cert.specs.declared.certificate.Certificate.{Certificate}
use Rattle.kb_cert.specs.declared.certificate.Certificate.TheVariants.{Lpo, Linear, Kbo}
use Rattle.mkb_model.specs.Plain.{Plain}
use Rattle.mkb_model.specs.Effects.{effect}
use Rattle.mkb_model.specs.Proposals.{NamedRule, IsClosedOn, HasForm, Proposes}
use Rattle.mkb_model.specs.Journals.{Moment, IsFirstJob, opening, in_flight, landed, IsTaking, IsCommitting, After, Alone, stated}
use Rattle.kb_node.specs.declared.job.Job.TheVariants.{Orient, Overlap, Close}
use Rattle.mkb_model.specs.declared.proposed.Proposed.{Proposed}
use Rattle.mkb_model.specs.declared.proposed.Proposed.TheVariants.{Both, Deduce, Closed}
use Rattle.mkb_model.specs.declared.entry.Effect.TheVariants.{Made}
use Rattle.mkb_model.specs.declared.entry.Entry.{Entry}
use Rattle.mkb_model.specs.declared.entry.Entry.TheVariants.{Take, Commit}
use Rattle.mkb_model.proofs.rows.Worked.{two_constants, node, rule, constant, e, p0}
use mathlib.Core.Bool.{true≢false}
use Rattle.kb_lemmas.proofs.Membership.{all_none, all_one, none_in}

-- ---- lists of no and of one member

pub one_in : {X : Type 0} {x y : X} → Contains (x ∷ []) y → x ≡ y
one_in {X} {x} {y} c = go c.0 c.1 c.2
  where
    go : (k : ℕ) → k < 1 → slice_index_or (x ∷ []) k y ≡ y → x ≡ y
    go zero h e = e
    go (suc k) h e = absurd (omega (arith, h))

abbrev pub is_empty_list : {X : Type 0} → List X → Bool
is_empty_list [] = true
is_empty_list (x ∷ xs) = false

-- ---- terms

abbrev pub a : Tree
a = constant 0

abbrev pub b : Tree
b = constant 1

abbrev pub a_to_b : Rule
a_to_b = record { left = a; right = b }

pub a_above_b : LpoGreater (0 ∷ 1 ∷ []) a b
a_above_b = symbol_greater (λ u c. none_in c) (omega arith)

b_above_a : LpoGreater (1 ∷ 0 ∷ []) b a
b_above_a = symbol_greater (λ u c. none_in c) (omega arith)

abbrev pub b_to_a : Rule
b_to_a = record { left = b; right = a }

-- no constant is above one that stands before it
not_above : (f g : ℕ) → ¬ IsAbove (0 ∷ 1 ∷ []) f g → ¬ LpoGreater (0 ∷ 1 ∷ []) (constant f) (constant g)
not_above f g low (argument_equal c) = none_in c
not_above f g low (argument_greater u c h) = none_in c
not_above f g low (symbol_greater h above) = low above
not_above f g low (arguments_greater h [] s t after_s after_t es et k) = no_list es
  where
    no_list : [] ≡ s ∷ after_s → ⊥
    no_list e = true≢false (ap is_empty_list e)
not_above f g low (arguments_greater h (x ∷ front) s t after_s after_t es et k) = no_list es
  where
    no_list : [] ≡ x ∷ (front ++ s ∷ after_s) → ⊥
    no_list e = true≢false (ap is_empty_list e)

not_first : ¬ Orders (Lpo (0 ∷ 1 ∷ [])) (b_to_a ∷ [])
not_first h = not_above 1 0 (λ above. omega (arith, above)) (h 0 b_to_a (omega arith))

-- ---- the boards

abbrev pub board0 : Plain
board0 = opening two_constants (stated 100)

abbrev pub fork_it : Proposed
fork_it = Both e (node 0) (Lpo (0 ∷ 1 ∷ [])) (Lpo (1 ∷ 0 ∷ []))

abbrev pub overlap_it : Proposed
overlap_it = Deduce (rule 0 0) (rule 0 0) []

abbrev pub board1 : Plain
board1 = in_flight 1 1 (Orient e (node 0)) board0

abbrev pub board2 : Plain
board2 = landed 1 (effect board1 fork_it)

abbrev pub board3 : Plain
board3 = in_flight 1 2 (Overlap p0 (rule 0 0) (rule 0 0)) board2

abbrev pub board4 : Plain
board4 = landed 2 (effect board3 overlap_it)

abbrev pub board5 : Plain
board5 = in_flight 1 3 (Close p0) board4

abbrev pub board6 : Plain
board6 = landed 3 (effect board5 (Closed p0))

-- ---- the proposals

forking : Proposes board0 (Orient e (node 0)) fork_it
forking = (
  refl,
  refl,
  (
    all_one (λ (r : Rule). LpoGreater (0 ∷ 1 ∷ []) r.left r.right) a_to_b a_above_b,
    [],
    Lpo (1 ∷ 0 ∷ []) ∷ (map Linear (interpretations two_constants.signature) ++ map Kbo (kbo_orders two_constants.signature)),
    refl,
    all_none (λ (c : Certificate). ¬ Orders c (a_to_b ∷ [])),
  ),
  (
    all_one (λ (r : Rule). LpoGreater (1 ∷ 0 ∷ []) r.left r.right) b_to_a b_above_a,
    Lpo (0 ∷ 1 ∷ []) ∷ [],
    map Linear (interpretations two_constants.signature) ++ map Kbo (kbo_orders two_constants.signature),
    refl,
    all_one (λ (c : Certificate). ¬ Orders c (b_to_a ∷ [])) (Lpo (0 ∷ 1 ∷ [])) not_first,
  ),
)

overlapping : Proposes board2 (Overlap p0 (rule 0 0) (rule 0 0)) overlap_it
overlapping = (
  refl,
  refl,
  (
    a_to_b,
    a_to_b,
    refl,
    refl,
    record {
      overlaps = [];
      all = ([], [], ([], refl, refl), refl, refl);
      within = λ o c. none_in c;
      proposed = refl;
    },
  ),
)

-- ---- the close of process 0: a comes to b in one step, and b is normal

abbrev pub head_of : Option Tree → ℕ
head_of None = 7
head_of (Some (variable n)) = 6
head_of (Some (apply f ts)) = f

no_redex_in_b : (p : List ℕ) (m : ℕ → Tree) → ¬ (subtree_at b p ≡ Some (instance m a))
no_redex_in_b [] m h = absurd (omega (arith, ap head_of h))
no_redex_in_b (zero ∷ p) m h = absurd (omega (arith, ap head_of h))
no_redex_in_b (suc i ∷ p) m h = absurd (omega (arith, ap head_of h))

b_normal : IsNormal (a_to_b ∷ []) b
b_normal u (r, c, p, w) = no_redex_in_b p w.0 (subst {A = Rule} (λ r. subtree_at b p ≡ Some (instance w.0 r.left)) (sym (one_in c)) (w.1).redex)

a_steps : StrategyStep (a_to_b ∷ []) a b
a_steps = (
  [],
  0,
  record {
    redex = record { rule = a_to_b; there = refl; matches = (a, refl, (variable, refl)); strict = λ h. absurd (true≢false (sym h)) };
    before = [];
    after = [];
    in_preorder = refl;
    none_before = λ q j c. none_in c;
    first_rule = λ j h. absurd (omega (arith, h));
  },
  (variable, record { redex = refl; result = refl }),
)

a_form : NormalisesTo (a_to_b ∷ []) a (form b 1)
a_form = (b ∷ [], ((a_steps, refl), all_one (λ (t : Tree). term_limit t ≡ None) b refl), refl, omega arith, b_normal)

b_form : NormalisesTo (a_to_b ∷ []) b (form b 0)
b_form = ([], (refl, all_none (λ (t : Tree). term_limit t ≡ None)), refl, omega arith, b_normal)

abbrev pub rules4 : List NamedRule
rules4 = record { ref = rule 0 0; rule = a_to_b } ∷ []

closing : IsClosedOn board4 p0
closing = record {
  overlaps = [];
  all = ([], [], ([], refl, refl), refl, refl);
  joined = λ o c. none_in c;
  formed = λ _ q c. subst {A = Tree × Tree} (λ q. ((u : Tree) × HasForm rules4 q.0 u) × ((v : Tree) × HasForm rules4 q.1 v)) (one_in c) ((b, (1, a_form)), (b, (0, b_form)));
}

-- ---- the journal

abbrev pub moment1 : Moment
moment1 = record { board = board0; entry = Take 1 1 (Orient e (node 0)) }

abbrev pub moment2 : Moment
moment2 = record { board = board1; entry = Commit 1 1 (Made fork_it) }

abbrev pub moment3 : Moment
moment3 = record { board = board2; entry = Take 1 2 (Overlap p0 (rule 0 0) (rule 0 0)) }

abbrev pub moment4 : Moment
moment4 = record { board = board3; entry = Commit 1 2 (Made overlap_it) }

abbrev pub moment5 : Moment
moment5 = record { board = board4; entry = Take 1 3 (Close p0) }

abbrev pub moment6 : Moment
moment6 = record { board = board5; entry = Commit 1 3 (Made (Closed p0)) }

pub taking1 : IsTaking IsFirstJob [] board0 1 1 (Orient e (node 0)) board1
taking1 = record { no_verdict = refl; no_halt = refl; worker_least = omega arith; worker_most = omega arith; next_number = refl; picked = refl; leads_to = refl }

pub committing2 : IsCommitting (moment1 ∷ []) board1 1 1 (Made fork_it) board2
committing2 = record {
  job = Orient e (node 0);
  proposal = fork_it;
  finishing = record { no_verdict = refl; flying = (0, omega arith, refl); before = board0; taken = (0, omega arith, refl); proposed = forking };
  acts = refl;
  names_effect = refl;
  leads_to = refl;
}

taking3 : IsTaking IsFirstJob (moment2 ∷ moment1 ∷ []) board2 1 2 (Overlap p0 (rule 0 0) (rule 0 0)) board3
taking3 = record { no_verdict = refl; no_halt = refl; worker_least = omega arith; worker_most = omega arith; next_number = refl; picked = refl; leads_to = refl }

committing4 : IsCommitting (moment3 ∷ moment2 ∷ moment1 ∷ []) board3 1 2 (Made overlap_it) board4
committing4 = record {
  job = Overlap p0 (rule 0 0) (rule 0 0);
  proposal = overlap_it;
  finishing = record { no_verdict = refl; flying = (0, omega arith, refl); before = board2; taken = (0, omega arith, refl); proposed = overlapping };
  acts = refl;
  names_effect = refl;
  leads_to = refl;
}

taking5 : IsTaking IsFirstJob (moment4 ∷ moment3 ∷ moment2 ∷ moment1 ∷ []) board4 1 3 (Close p0) board5
taking5 = record { no_verdict = refl; no_halt = refl; worker_least = omega arith; worker_most = omega arith; next_number = refl; picked = refl; leads_to = refl }

committing6 : IsCommitting (moment5 ∷ moment4 ∷ moment3 ∷ moment2 ∷ moment1 ∷ []) board5 1 3 (Made (Closed p0)) board6
committing6 = record {
  job = Close p0;
  proposal = Closed p0;
  finishing = record { no_verdict = refl; flying = (0, omega arith, refl); before = board4; taken = (0, omega arith, refl); proposed = (refl, closing) };
  acts = refl;
  names_effect = refl;
  leads_to = refl;
}

abbrev pub journal : List Entry
journal =
    Take 1 1 (Orient e (node 0))
    ∷ Commit 1 1 (Made fork_it)
    ∷ Take 1 2 (Overlap p0 (rule 0 0) (rule 0 0))
    ∷ Commit 1 2 (Made overlap_it)
    ∷ Take 1 3 (Close p0)
    ∷ Commit 1 3 (Made (Closed p0))
    ∷ []

pub two_constants_after : After two_constants (stated 100) journal board6
two_constants_after = (
  moment6 ∷ moment5 ∷ moment4 ∷ moment3 ∷ moment2 ∷ moment1 ∷ [],
  refl,
  ((((((refl, taking1), committing2), taking3), committing4), taking5), committing6),
)

two_constants_alone : Alone two_constants (stated 100) journal board6
two_constants_alone = record { legal = two_constants_after; in_turn = refl; ended = refl }
