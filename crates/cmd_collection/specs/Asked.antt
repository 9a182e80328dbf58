-- What `collection` is asked.
use Rattle.search_limits.specs.Settings.{settings_in}
use Rattle.cmd_collection.specs.Words.{collection_in}
use Rattle.cmd_collection.specs.declared.asked.Collection.{Collection}
use Rattle.cmd_collection.specs.Words.{CollectView}

-- What `collection` is asked, in numbers.
abbrev pub collect_in : Collection → CollectView
collect_in asked = record { settings = settings_in asked.settings; form = collection_in asked.form }
