-- The texts that are always the same (cgroup-v2.rst, "Interface Files"; psi.rst).
use Rattle.std.specs.Prelude.{ℕ, List, codes}
use Rattle.cg_text.specs.declared.keyword.Keyword.{Keyword}
use Rattle.cg_text.specs.declared.keyword.Keyword.TheVariants.{Max, Unknown, Default, Some, Full, Domain, DomainThreaded, DomainInvalid, Threaded, NoChange, PromoteToRt, RestrictToBe, Idle, NoneToRt}
use Rattle.cg_text.specs.declared.keyword.Keyword.TheVariants.{Member, Root, Isolated, Invalid, Opening, Rbps, Wbps, Riops, Wiops, Target, Swappiness, Avg10, Avg60, Avg300, Total, NodeTotal}

abbrev pub text_of : Keyword → List ℕ
text_of Max = codes "max"
text_of Unknown = codes "(unknown)"
text_of Default = codes "default"
text_of Some = codes "some"
text_of Full = codes "full"
text_of Domain = codes "domain"
text_of DomainThreaded = codes "domain threaded"
text_of DomainInvalid = codes "domain invalid"
text_of Threaded = codes "threaded"
text_of NoChange = codes "no-change"
text_of PromoteToRt = codes "promote-to-rt"
text_of RestrictToBe = codes "restrict-to-be"
text_of Idle = codes "idle"
text_of NoneToRt = codes "none-to-rt"
text_of Member = codes "member"
text_of Root = codes "root"
text_of Isolated = codes "isolated"
text_of Invalid = codes " invalid"
text_of Opening = codes " ("
text_of Rbps = codes " rbps="
text_of Wbps = codes " wbps="
text_of Riops = codes " riops="
text_of Wiops = codes " wiops="
text_of Target = codes " target="
text_of Swappiness = codes " swappiness="
text_of Avg10 = codes " avg10="
text_of Avg60 = codes " avg60="
text_of Avg300 = codes " avg300="
text_of Total = codes " total="
text_of NodeTotal = codes "total="
