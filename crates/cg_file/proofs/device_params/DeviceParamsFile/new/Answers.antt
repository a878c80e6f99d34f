use Rattle.cg_join.specs.Spelling.{spells_as, mapped_spells}
use Rattle.cg_value.specs.ReadLine.{IsParamLine}
use Rattle.cg_value.specs.declared.kind.ReadForm.TheVariants.{DeviceParams as ParamsForm}
use Rattle.cg_value.specs.declared.value.Value.TheVariants.{DeviceParams}
use Rattle.cg_file.specs.ManyFileLaws.{all_is}
use Rattle.cg_file.specs.ParamFileLaws.{device_params_value, params_lack}
use Rattle.cg_file.proofs.device_params.DeviceParamsFile.new.Goals as goal

pub new-requires : goal.new-requires
new-requires c = params_lack

pub returns-clause-spells : goal.returns-clause-spells
returns-clause-spells c = let whole = spells_as (mapped_spells device_params_value c.new.ensures.spells c.new-2.ensures.spells) (all_is ParamsForm IsParamLine DeviceParams (λ v lines. (λ h. h, λ h. h))) in record { is = whole.is }
