-- Strings of marks lead through terms.
use Rattle.std.specs.Prelude.{ℕ, ◌≡◌, ◌==◌, ◌&&◌, cond, Bool, true, List, [], ◌∷◌, ◌++◌, length, replicate, ⊤}
use Rattle.kb_term.specs.Tree.{Tree, variable, apply, list_of}
use Rattle.rule_index.specs.declared.mark.Mark.{Mark}
use Rattle.rule_index.specs.declared.mark.Mark.TheVariants.{Any, Apply}
use Rattle.rule_index.specs.declared.branch.Branch.{Branch, End, Key', Node'}

-- the marks lead through the terms and no further: any takes a term whole, a symbol takes an application of it to as many arguments
-- and leads on through these; where walks are loose, a symbol takes a variable too, as an application to as many variables
abbrev pub Leads : Bool → List Mark → List Tree → Type 0
Leads loose [] [] = ⊤
Leads loose [] (t ∷ ts) = ⊥
Leads loose (mark ∷ marks) [] = ⊥
Leads loose (Any ∷ marks) (t ∷ ts) = Leads loose marks ts
Leads loose (Apply f n ∷ marks) (variable x ∷ ts) = (loose ≡ true) × Leads loose marks (replicate n (variable x) ++ ts)
Leads loose (Apply f n ∷ marks) (apply g us ∷ ts) = (f ≡ g) × (n ≡ length (list_of us)) × Leads loose marks (list_of us ++ ts)

-- the keys of the branch's marks that lead through the terms, in the order of the tree; `IsCandidate` and `MayOverlap` say the same without the tree
abbrev pub hits : Bool → Branch → List Tree → List ℕ
hits loose End ts = []
hits loose (Key' key p rest) [] = key ∷ hits loose rest []
hits loose (Key' key p rest) (t ∷ ts) = hits loose rest (t ∷ ts)
hits loose (Node' mark p inner q rest) [] = hits loose rest []
hits loose (Node' Any p inner q rest) (t ∷ ts) = hits loose inner ts ++ hits loose rest (t ∷ ts)
hits loose (Node' (Apply f n) p inner q rest) (variable x ∷ ts) = cond loose (hits loose inner (replicate n (variable x) ++ ts)) [] ++ hits loose rest (variable x ∷ ts)
hits loose (Node' (Apply f n) p inner q rest) (apply g us ∷ ts) = cond ((f == g) && (n == length (list_of us))) (hits loose inner (list_of us ++ ts)) [] ++ hits loose rest (apply g us ∷ ts)
