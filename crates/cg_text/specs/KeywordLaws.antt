-- What holds of the texts that are always the same.
use Rattle.std.proofs.Common.{ℕ, true, not, List, [], ◌∷◌, ◌≡◌, refl, nat_eq, nat_lt, ltb-true, eq-eqb}
use Rattle.std.proofs.lemmas.Bool.{and_parts}
use Rattle.std.specs.List.{list_all}
use Rattle.cg_text.specs.Texts.{Lacks}
use Rattle.cg_text.specs.Token.{AreBytes}
use Rattle.cg_text.specs.Keyword.{text_of}
use Rattle.cg_text.specs.declared.keyword.Keyword.{Keyword}
use Rattle.cg_text.specs.declared.keyword.Keyword.TheVariants.{Max, Unknown, Default, Some, Full, Domain, DomainThreaded, DomainInvalid, Threaded, NoChange, PromoteToRt, RestrictToBe, Idle, NoneToRt}
use Rattle.cg_text.specs.declared.keyword.Keyword.TheVariants.{Member, Root, Isolated, Invalid, Opening, Rbps, Wbps, Riops, Wiops, Target, Swappiness, Avg10, Avg60, Avg300, Total, NodeTotal}

tested_bytes : (xs : List ℕ) → list_all (λ b. nat_lt b 256) xs ≡ true → AreBytes xs
tested_bytes [] e = tt
tested_bytes (x ∷ xs) e = let both = and_parts _ _ e in (ltb-true x 256 both.0, tested_bytes xs both.1)

-- A text whose bytes were tested.
pub tested_lacks : (b : ℕ) (xs : List ℕ) → list_all (λ c. not (nat_eq c b)) xs ≡ true → Lacks b xs
tested_lacks b [] e = tt
tested_lacks b (x ∷ xs) e =
    let both = and_parts _ _ e in
    let differs : not (nat_eq x b) ≡ true = both.0 in
    ((λ s. (let t : nat_eq x b ≡ true = eq-eqb x b s in cc)), tested_lacks b xs both.1)

pub keyword_bytes : (keyword : Keyword) → AreBytes (text_of keyword)
keyword_bytes Max = tested_bytes (text_of Max) refl
keyword_bytes Unknown = tested_bytes (text_of Unknown) refl
keyword_bytes Default = tested_bytes (text_of Default) refl
keyword_bytes Some = tested_bytes (text_of Some) refl
keyword_bytes Full = tested_bytes (text_of Full) refl
keyword_bytes Domain = tested_bytes (text_of Domain) refl
keyword_bytes DomainThreaded = tested_bytes (text_of DomainThreaded) refl
keyword_bytes DomainInvalid = tested_bytes (text_of DomainInvalid) refl
keyword_bytes Threaded = tested_bytes (text_of Threaded) refl
keyword_bytes NoChange = tested_bytes (text_of NoChange) refl
keyword_bytes PromoteToRt = tested_bytes (text_of PromoteToRt) refl
keyword_bytes RestrictToBe = tested_bytes (text_of RestrictToBe) refl
keyword_bytes Idle = tested_bytes (text_of Idle) refl
keyword_bytes NoneToRt = tested_bytes (text_of NoneToRt) refl
keyword_bytes Member = tested_bytes (text_of Member) refl
keyword_bytes Root = tested_bytes (text_of Root) refl
keyword_bytes Isolated = tested_bytes (text_of Isolated) refl
keyword_bytes Invalid = tested_bytes (text_of Invalid) refl
keyword_bytes Opening = tested_bytes (text_of Opening) refl
keyword_bytes Rbps = tested_bytes (text_of Rbps) refl
keyword_bytes Wbps = tested_bytes (text_of Wbps) refl
keyword_bytes Riops = tested_bytes (text_of Riops) refl
keyword_bytes Wiops = tested_bytes (text_of Wiops) refl
keyword_bytes Target = tested_bytes (text_of Target) refl
keyword_bytes Swappiness = tested_bytes (text_of Swappiness) refl
keyword_bytes Avg10 = tested_bytes (text_of Avg10) refl
keyword_bytes Avg60 = tested_bytes (text_of Avg60) refl
keyword_bytes Avg300 = tested_bytes (text_of Avg300) refl
keyword_bytes Total = tested_bytes (text_of Total) refl
keyword_bytes NodeTotal = tested_bytes (text_of NodeTotal) refl

-- None has a newline.
pub keyword_lacks : (keyword : Keyword) → Lacks 10 (text_of keyword)
keyword_lacks Max = tested_lacks 10 (text_of Max) refl
keyword_lacks Unknown = tested_lacks 10 (text_of Unknown) refl
keyword_lacks Default = tested_lacks 10 (text_of Default) refl
keyword_lacks Some = tested_lacks 10 (text_of Some) refl
keyword_lacks Full = tested_lacks 10 (text_of Full) refl
keyword_lacks Domain = tested_lacks 10 (text_of Domain) refl
keyword_lacks DomainThreaded = tested_lacks 10 (text_of DomainThreaded) refl
keyword_lacks DomainInvalid = tested_lacks 10 (text_of DomainInvalid) refl
keyword_lacks Threaded = tested_lacks 10 (text_of Threaded) refl
keyword_lacks NoChange = tested_lacks 10 (text_of NoChange) refl
keyword_lacks PromoteToRt = tested_lacks 10 (text_of PromoteToRt) refl
keyword_lacks RestrictToBe = tested_lacks 10 (text_of RestrictToBe) refl
keyword_lacks Idle = tested_lacks 10 (text_of Idle) refl
keyword_lacks NoneToRt = tested_lacks 10 (text_of NoneToRt) refl
keyword_lacks Member = tested_lacks 10 (text_of Member) refl
keyword_lacks Root = tested_lacks 10 (text_of Root) refl
keyword_lacks Isolated = tested_lacks 10 (text_of Isolated) refl
keyword_lacks Invalid = tested_lacks 10 (text_of Invalid) refl
keyword_lacks Opening = tested_lacks 10 (text_of Opening) refl
keyword_lacks Rbps = tested_lacks 10 (text_of Rbps) refl
keyword_lacks Wbps = tested_lacks 10 (text_of Wbps) refl
keyword_lacks Riops = tested_lacks 10 (text_of Riops) refl
keyword_lacks Wiops = tested_lacks 10 (text_of Wiops) refl
keyword_lacks Target = tested_lacks 10 (text_of Target) refl
keyword_lacks Swappiness = tested_lacks 10 (text_of Swappiness) refl
keyword_lacks Avg10 = tested_lacks 10 (text_of Avg10) refl
keyword_lacks Avg60 = tested_lacks 10 (text_of Avg60) refl
keyword_lacks Avg300 = tested_lacks 10 (text_of Avg300) refl
keyword_lacks Total = tested_lacks 10 (text_of Total) refl
keyword_lacks NodeTotal = tested_lacks 10 (text_of NodeTotal) refl
