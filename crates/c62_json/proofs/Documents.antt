-- A text that was written is its command's document.
use Rattle.std.proofs.Common.{◌≡◌, ◌∙◌, ℕ, List, [], ◌∷◌, ◌++◌, ap, append_assoc}
use Rattle.std.specs.Prelude.{codes}
use Rattle.json.specs.Token.{Token, end_object}
use Rattle.json.specs.Print.{print}
use Rattle.c62_json.specs.Document.{document, head}

pub written : (command : List ℕ) (members opening tokens : List Token) (before text : List ℕ) → before ≡ []
    → opening ≡ head command → tokens ≡ opening ++ members
    → text ≡ before ++ print (tokens ++ end_object ∷ []) ++ codes "\n" → text ≡ document command members
written command members opening tokens before text none begun is says =
    let whole : tokens ++ end_object ∷ [] ≡ head command ++ members ++ end_object ∷ [] =
    ap (λ (ts : List Token). ts ++ end_object ∷ [])
    (is ∙ ap (λ (front : List Token). front ++ members) begun)
    ∙ append_assoc (head command) members (end_object ∷ []) in
    says
    ∙ (ap (λ (front : List ℕ). front ++ print (tokens ++ end_object ∷ []) ++ codes "\n") none
    ∙ ap (λ (ts : List Token). print ts ++ codes "\n") whole)
