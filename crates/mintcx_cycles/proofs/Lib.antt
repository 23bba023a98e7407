mod CycleLaws
