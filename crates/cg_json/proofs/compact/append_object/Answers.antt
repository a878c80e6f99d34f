use Rattle.cg_json.specs.PutLaws.{put_rising}
use Rattle.cg_json.proofs.compact.append_object.Goals as goal

pub returns-then-are_rising : goal.returns-then-are_rising
returns-then-are_rising g c =
    rw (put_rising g.T.Member.key_of g.T.Json.tree_of c.args.members.now c.requires (c.are_rising.ensures c.if-are_rising.true)) c.append_listed.ensures
