-- The rules of content light level, as a kind that holds one thing.
use Rattle.kinds.specs.Single.{Rules}
use Rattle.kinds.specs.Contents.{constant}
use Rattle.content_light_level.specs.ContentLightLevel.{layout}

abbrev pub level_rules : Rules
level_rules = constant 144 6 layout
