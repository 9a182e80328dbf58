-- Lemmas of the settings.
mod Powers
