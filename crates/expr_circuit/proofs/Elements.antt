-- What a line says is told by what is kept of it.
use Rattle.std.proofs.Common.{◌≡◌, ℕ, List, [], ◌∷◌, refl, ◌∙◌, ap}
use Rattle.line_grammar.specs.declared.element.ExprElement.{ExprElement}
use Rattle.line_grammar.specs.declared.element.ExprElement.TheVariants as elements
use Rattle.line_grammar.specs.declared.element.Head.{Head}
use Rattle.line_grammar.specs.declared.element.Head.TheVariants as heads
use Rattle.line_grammar.specs.Grammar.{Expr, LineForm}
use Rattle.line_grammar.specs.Grammar.Expr.{number, named, grouped, paired, prefixed, infixed, chosen}
use Rattle.line_grammar.specs.Grammar.LineForm.{input_line, wide_input_line, let_line, output_line}
use Rattle.line_grammar.specs.Machine.{Read}
use Rattle.line_grammar.specs.Postfix.{post, read_of}
use Rattle.expr_circuit.specs.Programs.{Term, Statement, operation, term, statement}
use Rattle.line_grammar.specs.Places.{name_at, number_at}
use Rattle.expr_circuit.specs.Programs.Term.{constant, variable, negative}
use Rattle.expr_circuit.specs.Programs.Statement.{input, define, output}

-- the terms that wait after one more element, the last one first
abbrev after_element : List ℕ → ExprElement → List Term → List Term
after_element line (elements.Number at) ts = constant (number_at line at) ∷ ts
after_element line (elements.Name at) ts = variable (name_at line at) ∷ ts
after_element line (elements.Prefix x) (t ∷ ts) = negative t ∷ ts
after_element line (elements.Infix o at) (t ∷ (s ∷ ts)) = operation o s t ∷ ts
after_element line (elements.Pair p) (t ∷ (s ∷ ts)) = constant 0 ∷ ts
after_element line elements.Choose (t ∷ (s ∷ (c ∷ ts))) = constant 0 ∷ ts
after_element line _ ts = ts

abbrev after_elements : List ℕ → List ExprElement → List Term → List Term
after_elements line [] ts = ts
after_elements line (x ∷ xs) ts = after_elements line xs (after_element line x ts)

-- the elements of an expression leave what it says
told : (line : List ℕ) (e : Expr) (rest : List ExprElement) (ts : List Term) → after_elements line (post e rest) ts ≡ after_elements line rest (term line e ∷ ts)
told line (number at) rest ts = refl
told line (named at) rest ts = refl
told line (grouped e) rest ts = told line e rest ts
told line (paired p a b) rest ts = told line a (post b (elements.Pair p ∷ rest)) ts ∙ told line b (elements.Pair p ∷ rest) (term line a ∷ ts)
told line (prefixed x at e) rest ts = told line e (elements.Prefix x ∷ rest) ts
told line (infixed o at a b) rest ts = told line a (post b (elements.Infix o at ∷ rest)) ts ∙ told line b (elements.Infix o at ∷ rest) (term line a ∷ ts)
told line (chosen c a b) rest ts =
    told line c (post a (post b (elements.Choose ∷ rest))) ts ∙ told line a (post b (elements.Choose ∷ rest)) (term line c ∷ ts)
    ∙ told line b (elements.Choose ∷ rest) (term line a ∷ (term line c ∷ ts))

abbrev last : List Term → Term
last [] = constant 0
last (t ∷ ts) = t

-- what a line says, by what is kept of it
abbrev says_in : List ℕ → List ExprElement → Head → Statement
says_in line xs (heads.Input x) = input (name_at line x)
says_in line xs (heads.WideInput x w) = input (name_at line x)
says_in line xs (heads.Let x) = define (name_at line x) (last (after_elements line xs []))
says_in line xs heads.Output = output (last (after_elements line xs []))

abbrev pub says : List ℕ → Read → Statement
says line read = says_in line read.elements read.head

pub says_is : (line : List ℕ) (l : LineForm) → says line (read_of l) ≡ statement line l
says_is line (input_line x) = refl
says_is line (wide_input_line x w) = refl
says_is line (let_line x e) = ap (λ ts. define (name_at line x) (last ts)) (told line e [] [])
says_is line (output_line e) = ap (λ ts. output (last ts)) (told line e [] [])
