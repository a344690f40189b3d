use Rattle.std.proofs.Common.{sym, ◌∙◌, ◌++◌, ◌∷◌, [], ap, subst, arith, ◌≡◌, suc, ◌-◌, Contains, refl, List, ℕ}
use Rattle.std.specs.Prelude.{None}
use Rattle.kb_lpo.specs.Precedences.{arrangements}
use Rattle.kb_term.specs.First.{IsFirst}
use Rattle.std.proofs.lemmas.Bool.{false≢true}
use Rattle.std.proofs.lemmas.List.{append_assoc}
use Rattle.kb_lemmas.proofs.Membership.{listed_or_not}
use Rattle.kb_lpo.specs.Search.{numbers, Fits, IsSearched, outside}
use Rattle.kb_lpo.specs.Precedences.{LpoOrients}
use Rattle.kb_lpo.proofs.First.{leaf, numbers_push, found_next, none_next, none_refused, popped, tried}
use Rattle.kb_lpo.proofs.Ascending.{floor_next, lowest_refused, lowest_within}
use Rattle.kb_lpo.proofs.search.+search_from.Goals as goal
use Rattle.kb_lpo.proofs.search.+search_from.Goals.{search_from-then-place_next+in_ok-push+in_ok-search_or_fit+else-branch, search_from-else-place_next}

pub search_from-returns-then-left-eq0 : goal.search_from-returns-then-left-eq0
search_from-returns-then-left-eq0 t c =
    let e = ap numbers c.deref.ensures.value in
    leaf c.args.rules.now c.args.count c.args.left (numbers c.args.prefix.now.items) c.orients.result (grind arith) ((λ h. subst (λ z. LpoOrients z c.args.rules.now) e (c.orients.ensures.0 h)), (λ o. c.orients.ensures.1 (subst (λ z. LpoOrients z c.args.rules.now) (sym e) o)))

pub search_from-search_or_fit-requires : goal.search_from-search_or_fit-requires
search_from-search_or_fit-requires t c =
    let xs = numbers c.args.prefix.now.items in
    let y = c.loop-y.y in
    let rules = c.args.rules.now in
    let s = ap numbers c.deref-in-loop-y.ensures.value ∙ c.loop-y.invariant.0 in
    let u = c.place_next.ensures.unlisted c.if-place_next.true in
    let p : numbers c.push.new.self.items ≡ xs ++ y ∷ [] = ap numbers c.in_ok-push.ensures.items ∙ numbers_push c.loop-y.prefix.items (record { 0 = y }) ∙ ap (λ z. z ++ y ∷ []) c.loop-y.invariant.0 in
    let n : suc (c.args.left - 1) ≡ c.args.left = grind arith in
    let low = lowest_within rules c.args.count c.args.left xs (numbers c.args.floor.now) c.requires.bound in
    let sound : (rest : List ℕ) → LpoOrients (numbers c.push.new.self.items ++ rest) rules → Fits c.place_next.new.known (numbers c.push.new.self.items ++ rest) = λ rest o.
    let e = ap (λ z. z ++ rest) p ∙ append_assoc xs (y ∷ []) rest in
    let d = ap (λ z. z ++ y ∷ rest) s in
    let q = subst (λ z. LpoOrients z rules) e o in
    subst (Fits c.place_next.new.known) (d ∙ sym e) (c.place_next.ensures.sound rest u (subst (Fits c.args.known.now) (sym d) (c.requires.sound (y ∷ rest) q)) (subst (λ z. LpoOrients z rules) (sym d) q)).1 in
    (grind arith, (sound, floor_next rules c.args.count c.args.left (c.args.left - 1) y xs (numbers c.push.new.self.items) (numbers c.args.floor.now) (numbers c.behind-next_floor.result.now) n p (grind arith) (subst (λ z. ¬ Contains z y) s u) c.behind-next_floor.ensures c.requires.bound))

pub search_from-loop-y-init : goal.search_from-loop-y-init
search_from-loop-y-init t c =
    let n : suc (c.args.left - 1) ≡ c.args.left = grind arith in
    let xs = numbers c.args.prefix.now.items in
    (refl, subst (λ z. IsFirst (λ r. LpoOrients (xs ++ r) c.args.rules.now) (tried (c.args.left - 1) xs c.args.count z) None) (sym c.lowest-y.ensures) (lowest_refused c.args.rules.now c.args.count c.args.left (c.args.left - 1) xs (numbers c.args.floor.now) n c.requires.bound))

pub search_from-returns-then-branch : goal.search_from-returns-then-branch
search_from-returns-then-branch t c =
    let xs = numbers c.args.prefix.now.items in
    let y = c.loop-y.y in
    let rules = c.args.rules.now in
    let s = ap numbers c.deref-in-loop-y.ensures.value ∙ c.loop-y.invariant.0 in
    let u = c.place_next.ensures.unlisted c.if-place_next.true in
    let p : numbers c.push.new.self.items ≡ xs ++ y ∷ [] = ap numbers c.in_ok-push.ensures.items ∙ numbers_push c.loop-y.prefix.items (record { 0 = y }) ∙ ap (λ z. z ++ y ∷ []) c.loop-y.invariant.0 in
    let n : suc (c.args.left - 1) ≡ c.args.left = grind arith in
    found_next rules c.args.count (c.args.left - 1) c.args.left y xs (numbers c.push.new.self.items) (numbers c.search_or_fit.new.prefix.items) n p (grind arith) (subst (λ z. ¬ Contains z y) s u) c.loop-y.invariant.1 (subst (λ b. IsSearched rules c.args.count (c.args.left - 1) (numbers c.push.new.self.items) (numbers c.search_or_fit.new.prefix.items) b) c.if-branch.true c.in_ok-search_or_fit.ensures)

pub search_from-loop-y-preserved : goal.search_from-loop-y-preserved
search_from-loop-y-preserved t c =
    let xs = numbers c.args.prefix.now.items in
    let y = c.loop-y.y in
    let rules = c.args.rules.now in
    let s : numbers c.deref-in-loop-y.result.now ≡ xs = ap numbers c.deref-in-loop-y.ensures.value ∙ c.loop-y.invariant.0 in
    elim c.if-place_next.branch [
      | search_from-then-place_next+in_ok-push+in_ok-search_or_fit+else-branch w ↦
          let u = c.place_next.ensures.unlisted w.if-place_next.true in
          let p : numbers w.push.new.self.items ≡ xs ++ y ∷ [] = ap numbers w.in_ok-push.ensures.items ∙ numbers_push c.loop-y.prefix.items (record { 0 = y }) ∙ ap (λ z. z ++ y ∷ []) c.loop-y.invariant.0 in
          let r = subst (λ b. IsSearched rules c.args.count (c.args.left - 1) (numbers w.push.new.self.items) (numbers w.search_or_fit.new.prefix.items) b) w.if-branch.false w.in_ok-search_or_fit.ensures in
          (ap (λ v. numbers v.items) w.prefix-is ∙ popped xs y w.search_or_fit.new.prefix.items w.pop.new.self.items w.pop.result (r.0 ∙ p) w.pop.ensures.items (λ h. w.pop.ensures.variant.1 (let k = w.search_or_fit.new.prefix.ok in grind (arith, h, k))), none_next rules c.args.count (c.args.left - 1) y xs (numbers w.push.new.self.items) (numbers w.search_or_fit.new.prefix.items) p (subst (λ z. ¬ Contains z y) s u) c.loop-y.invariant.1 r)
      | search_from-else-place_next w ↦ (
        ap (λ v. numbers v.items) w.prefix-is ∙ c.loop-y.invariant.0,
        none_refused rules c.args.count (c.args.left - 1) y xs (listed_or_not xs y) (λ r n o.
            let d = ap (λ z. z ++ y ∷ r) s in
            false≢true (sym w.if-place_next.false ∙ (c.place_next.ensures.sound r (λ k. n (subst (λ z. Contains z y) s k)) (subst (Fits c.args.known.now) (sym d) (c.requires.sound (y ∷ r) o)) (subst (λ z. LpoOrients z rules) (sym d) o)).0)) c.loop-y.invariant.1,
      )
    ]

pub search_from-returns : goal.search_from-returns
search_from-returns t c =
    let xs = numbers c.args.prefix.now.items in
    let n : suc (c.args.left - 1) ≡ c.args.left = grind arith in
    let low = lowest_within c.args.rules.now c.args.count c.args.left xs (numbers c.args.floor.now) c.requires.bound in
    let y : c.loop-y.y ≡ c.args.count = grind (arith, low, c.lowest-y.ensures) in
    (c.loop-y.invariant.0, subst (λ m. IsFirst (λ r. LpoOrients (xs ++ r) c.args.rules.now) (arrangements m (outside c.args.count xs)) None) n (subst (λ z. IsFirst (λ r. LpoOrients (xs ++ r) c.args.rules.now) (tried (c.args.left - 1) xs c.args.count z) None) y c.loop-y.invariant.1))
