-- The symbols of an application are its own and those of its arguments.
use Rattle.std.proofs.Common.{ℕ, ◌≡◌, ◌≤◌, inl, inr, ⊎_elim, refl, sym, subst, arith, List, Contains, length}
use Rattle.std.proofs.lemmas.List.Elements.{Contains-append_left, Contains-append_right, Contains-append_cases}
use Rattle.kb_lemmas.proofs.Membership.{contains_cases, contains_behind}
use Rattle.kb_term.specs.Tree.{Tree, Trees, apply, no_trees, more_trees, trees_of, symbols_of, symbols_in}
use Rattle.kb_lpo.specs.Agreeing.{At, Between}
use Rattle.kb_lpo.proofs.Lpo.{IsArgument}
use Rattle.kb_lpo.proofs.Places.{at_argument, between_all}

symbol_of_argument : (x : ℕ) (t : Tree) (ts : Trees) → IsArgument t ts → Contains (symbols_of t) x → Contains (symbols_in ts) x
symbol_of_argument x t no_trees i c = absurd i
symbol_of_argument x t (more_trees u us) (inl e) c = Contains-append_left (symbols_of u) (symbols_in us) x (subst (λ z. Contains (symbols_of z) x) (sym e) c)
symbol_of_argument x t (more_trees u us) (inr i) c = Contains-append_right (symbols_of u) (symbols_in us) x (symbol_of_argument x t us i c)

symbol_of_some : (x : ℕ) (ts : Trees) → Contains (symbols_in ts) x → (t : Tree) × IsArgument t ts × Contains (symbols_of t) x
symbol_of_some x no_trees c = absurd (omega arith)
symbol_of_some x (more_trees t ts) c = ⊎_elim (λ d. (t, inl refl, d)) (λ d. let r = symbol_of_some x ts d in (r.0, inr r.1, r.2)) (Contains-append_cases (symbols_of t) (symbols_in ts) x c)

pub symbol_at : (f k x : ℕ) (xs : List Tree) (u : Tree) → At xs k u → Contains (symbols_of u) x → Contains (symbols_of (apply f (trees_of xs))) x
symbol_at f k x xs u a c = contains_behind f (symbols_in (trees_of xs)) x (symbol_of_argument x u (trees_of xs) (at_argument xs k u a) c)

pub symbol_nowhere : (f i x : ℕ) (xs : List Tree) → length xs ≤ i → ¬ (f ≡ x) → Between (λ u. ¬ Contains (symbols_of u) x) xs 0 i → ¬ Contains (symbols_of (apply f (trees_of xs))) x
symbol_nowhere f i x xs h d b c = ⊎_elim d (λ e. let r = symbol_of_some x (trees_of xs) e in between_all (λ u. ¬ Contains (symbols_of u) x) xs i h b r.0 r.1 r.2) (contains_cases f (symbols_in (trees_of xs)) x c)
