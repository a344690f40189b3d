use Rattle.std.proofs.Common.{sym, ◌∙◌, ◌++◌, ◌∷◌, [], ap, subst, arith, ◌≡◌, suc, ◌-◌, Contains, List, ℕ, length}
use Rattle.std.specs.Prelude.{None}
use Rattle.kb_lpo.specs.Precedences.{arrangements}
use Rattle.kb_term.specs.First.{IsFirst}
use Rattle.std.proofs.lemmas.Bool.{false≢true}
use Rattle.kb_lemmas.proofs.Membership.{listed_or_not}
use Rattle.kb_lpo.specs.Search.{numbers, outside}
use Rattle.kb_lpo.proofs.First.{numbers_push, popped, tried}
use Rattle.kb_kbo.specs.Measures.{order_of}
use Rattle.kb_kbo.specs.Orders.{KboOrients}
use Rattle.kb_kbo.specs.Search.{Fits, IsPlaced}
use Rattle.kb_kbo.proofs.Placing.{leaf, found_next, none_next, none_refused}
use Rattle.kb_kbo.proofs.search.+place.Goals as goal
use Rattle.kb_kbo.proofs.search.+place.Goals.{then-may_follow+in_ok-push+in_ok-place+else-branch, else-may_follow}

pub returns-then-left-eq0 : goal.returns-then-left-eq0
returns-then-left-eq0 t c =
    let e = ap numbers c.deref.ensures.value in
    let Q : List ℕ → Type 0 = λ p. KboOrients (order_of c.args.weights.now p) c.args.rules.now in
    leaf Q (length c.args.weights.now) c.args.left (numbers c.args.prefix.now.items) c.orients.result (grind arith) ((λ h. subst Q e (c.orients.ensures.0 h)), (λ o. c.orients.ensures.1 (subst Q (sym e) o)))

pub returns-then-branch : goal.returns-then-branch
returns-then-branch t c =
    let xs = numbers c.args.prefix.now.items in
    let y = c.loop-y.y in
    let n = length c.args.weights.now in
    let Q : List ℕ → Type 0 = λ p. KboOrients (order_of c.args.weights.now p) c.args.rules.now in
    let s = ap numbers c.deref-in-loop-y.ensures.value ∙ c.loop-y.invariant.prefix in
    let u = c.may_follow.ensures.unlisted c.if-may_follow.true in
    let p : numbers c.push.new.self.items ≡ xs ++ y ∷ [] = ap numbers c.in_ok-push.ensures.items ∙ numbers_push c.loop-y.prefix.items (record { 0 = y }) ∙ ap (λ z. z ++ y ∷ []) c.loop-y.invariant.prefix in
    let m : suc (c.args.left - 1) ≡ c.args.left = grind arith in
    found_next Q n (c.args.left - 1) c.args.left y xs (numbers c.push.new.self.items) (numbers c.place.new.prefix.items) m p (grind arith) (subst (λ z. ¬ Contains z y) s u) c.loop-y.invariant.none (subst (λ b. IsPlaced Q n (c.args.left - 1) (numbers c.push.new.self.items) (numbers c.place.new.prefix.items) b) c.if-branch.true c.in_ok-place.ensures)

pub loop-y-preserved : goal.loop-y-preserved
loop-y-preserved t c =
    let xs = numbers c.args.prefix.now.items in
    let y = c.loop-y.y in
    let n = length c.args.weights.now in
    let Q : List ℕ → Type 0 = λ p. KboOrients (order_of c.args.weights.now p) c.args.rules.now in
    let s : numbers c.deref-in-loop-y.result.now ≡ xs = ap numbers c.deref-in-loop-y.ensures.value ∙ c.loop-y.invariant.prefix in
    elim c.if-may_follow.branch [
      | then-may_follow+in_ok-push+in_ok-place+else-branch w ↦
          let u = c.may_follow.ensures.unlisted w.if-may_follow.true in
          let p : numbers w.push.new.self.items ≡ xs ++ y ∷ [] = ap numbers w.in_ok-push.ensures.items ∙ numbers_push c.loop-y.prefix.items (record { 0 = y }) ∙ ap (λ z. z ++ y ∷ []) c.loop-y.invariant.prefix in
          let r = subst (λ b. IsPlaced Q n (c.args.left - 1) (numbers w.push.new.self.items) (numbers w.place.new.prefix.items) b) w.if-branch.false w.in_ok-place.ensures in
          record {
            prefix = ap (λ v. numbers v.items) w.prefix-is ∙ popped xs y w.place.new.prefix.items w.pop.new.self.items w.pop.result (r.0 ∙ p) w.pop.ensures.items (λ h. w.pop.ensures.variant.1 (let k = w.place.new.prefix.ok in grind (arith, h, k)));
            none = none_next Q n (c.args.left - 1) y xs (numbers w.push.new.self.items) (numbers w.place.new.prefix.items) p (subst (λ z. ¬ Contains z y) s u) c.loop-y.invariant.none r;
          }
      | else-may_follow w ↦ record {
        prefix = ap (λ v. numbers v.items) w.prefix-is ∙ c.loop-y.invariant.prefix;
        none = none_refused Q n (c.args.left - 1) y xs (listed_or_not xs y) (λ r m o.
            let d = ap (λ z. z ++ y ∷ r) s in
            false≢true (sym w.if-may_follow.false ∙ c.may_follow.ensures.sound r (λ k. m (subst (λ z. Contains z y) s k)) (subst (Fits c.args.known.now) (sym d) (c.requires.sound (y ∷ r) o)))) c.loop-y.invariant.none;
      }
    ]

pub returns : goal.returns
returns t c =
    let xs = numbers c.args.prefix.now.items in
    let n = length c.args.weights.now in
    let Q : List ℕ → Type 0 = λ p. KboOrients (order_of c.args.weights.now p) c.args.rules.now in
    let m : suc (c.args.left - 1) ≡ c.args.left = grind arith in
    let y : c.loop-y.y ≡ n = grind arith in
    (c.loop-y.invariant.prefix, subst (λ i. IsFirst (λ r. Q (xs ++ r)) (arrangements i (outside n xs)) None) m (subst (λ z. IsFirst (λ r. Q (xs ++ r)) (tried (c.args.left - 1) xs n z) None) y c.loop-y.invariant.none))
