use Rattle.std.proofs.Common.{◌∙◌, ap, sym}
use Rattle.std.proofs.lemmas.Result.{IfOk-weaker}
use Rattle.serde_json.specs.Data.{string}
use Rattle.cg_json.specs.JsonLaws.{text_is_string, text_is_array}
use Rattle.cg_json.proofs.text.text.Goals as goal

pub returns-in-Ok : goal.returns-in-Ok
returns-in-Ok c =
    let same = c.in-Ok.ensures.cases in
    IfOk-weaker c.string.result _ _ (λ tree h. h ∙ ap string same.0 ∙ sym (text_is_string c.args.bytes.now same.1)) c.string.ensures

pub returns-in-Err : goal.returns-in-Err
returns-in-Err c =
    IfOk-weaker c.array.result _ _ (λ tree h. h ∙ sym (text_is_array c.args.bytes.now c.in-Err.ensures.cases.0)) c.array.ensures
